use Rattle.std.proofs.Common.{◌++◌, codes, string_bytes, refl, sym, ap, ◌∙◌}
use Rattle.pattern_dm.specs.Texts.{condition_text}
use Rattle.pattern_dm.proofs.TextLemmas.{step}
use Rattle.pattern_dm.proofs.TextLayers.{text_not, text_both, text_or}
use Rattle.pattern_dm.proofs.texts.+push_condition.Goals as goal

pub returns-in_ok-put-in-Not-2 : goal.returns-in_ok-put-in-Not-2
returns-in_ok-put-in-Not-2 t c =
    let t1 = step (string_bytes c.args.out.now) (string_bytes c.put-in-Not.new.out) (string_bytes c.push_condition.new.out) (codes "( ! ") (condition_text c.get.result.now) (condition_text c.in-Not.part) c.in_ok-put-in-Not.ensures c.in_ok-push_condition-in-Not.ensures (ap condition_text c.get.ensures) in
    step (string_bytes c.args.out.now) (string_bytes c.push_condition.new.out) (string_bytes c.put-in-Not-2.new.out) (codes "( ! " ++ condition_text c.in-Not.part) (codes " )") (codes " )") t1 c.in_ok-put-in-Not-2.ensures refl ∙ ap (λ t. string_bytes c.args.out.now ++ t) (sym (ap condition_text c.in-Not.is ∙ text_not c.in-Not.part))

pub returns-in_ok-put-in-And-3 : goal.returns-in_ok-put-in-And-3
returns-in_ok-put-in-And-3 t c =
    let t1 = step (string_bytes c.args.out.now) (string_bytes c.put-in-And.new.out) (string_bytes c.push_condition-in-And.new.out) (codes "( ") (condition_text c.get-in-And.result.now) (condition_text c.in-And.left) c.in_ok-put-in-And.ensures c.in_ok-push_condition-in-And.ensures (ap condition_text c.get-in-And.ensures) in
    let t2 = step (string_bytes c.args.out.now) (string_bytes c.push_condition-in-And.new.out) (string_bytes c.put-in-And-2.new.out) (codes "( " ++ condition_text c.in-And.left) (codes " && ") (codes " && ") t1 c.in_ok-put-in-And-2.ensures refl in
    let t3 = step (string_bytes c.args.out.now) (string_bytes c.put-in-And-2.new.out) (string_bytes c.push_condition-in-And-2.new.out) (codes "( " ++ condition_text c.in-And.left ++ codes " && ") (condition_text c.get-in-And-2.result.now) (condition_text c.in-And.right) t2 c.in_ok-push_condition-in-And-2.ensures (ap condition_text c.get-in-And-2.ensures) in
    step (string_bytes c.args.out.now) (string_bytes c.push_condition-in-And-2.new.out) (string_bytes c.put-in-And-3.new.out) (codes "( " ++ condition_text c.in-And.left ++ codes " && " ++ condition_text c.in-And.right) (codes " )") (codes " )") t3 c.in_ok-put-in-And-3.ensures refl ∙ ap (λ t. string_bytes c.args.out.now ++ t) (sym (ap condition_text c.in-And.is ∙ text_both c.in-And.left c.in-And.right))

pub returns-in_ok-put-in-Or-3 : goal.returns-in_ok-put-in-Or-3
returns-in_ok-put-in-Or-3 t c =
    let t1 = step (string_bytes c.args.out.now) (string_bytes c.put-in-Or.new.out) (string_bytes c.push_condition-in-Or.new.out) (codes "( ") (condition_text c.get-in-Or.result.now) (condition_text c.in-Or.left) c.in_ok-put-in-Or.ensures c.in_ok-push_condition-in-Or.ensures (ap condition_text c.get-in-Or.ensures) in
    let t2 = step (string_bytes c.args.out.now) (string_bytes c.push_condition-in-Or.new.out) (string_bytes c.put-in-Or-2.new.out) (codes "( " ++ condition_text c.in-Or.left) (codes " || ") (codes " || ") t1 c.in_ok-put-in-Or-2.ensures refl in
    let t3 = step (string_bytes c.args.out.now) (string_bytes c.put-in-Or-2.new.out) (string_bytes c.push_condition-in-Or-2.new.out) (codes "( " ++ condition_text c.in-Or.left ++ codes " || ") (condition_text c.get-in-Or-2.result.now) (condition_text c.in-Or.right) t2 c.in_ok-push_condition-in-Or-2.ensures (ap condition_text c.get-in-Or-2.ensures) in
    step (string_bytes c.args.out.now) (string_bytes c.push_condition-in-Or-2.new.out) (string_bytes c.put-in-Or-3.new.out) (codes "( " ++ condition_text c.in-Or.left ++ codes " || " ++ condition_text c.in-Or.right) (codes " )") (codes " )") t3 c.in_ok-put-in-Or-3.ensures refl ∙ ap (λ t. string_bytes c.args.out.now ++ t) (sym (ap condition_text c.in-Or.is ∙ text_or c.in-Or.left c.in-Or.right))
