use Rattle.std.proofs.Common.{◌++◌, codes, map, string_bytes, refl, sym, ap, ◌∙◌}
use Rattle.pattern_dm.specs.Texts.{filter_text, filter_unless_true, pattern_text, rename_text, spaced}
use Rattle.pattern_dm.proofs.TextLemmas.{step}
use Rattle.pattern_dm.proofs.TextLayers.{text_and, text_left, text_union, text_minus, text_filter, text_select}
use Rattle.pattern_dm.proofs.texts.+push_pattern.Goals as goal

pub returns-in_ok-put-in-And-3 : goal.returns-in_ok-put-in-And-3
returns-in_ok-put-in-And-3 t c =
    let t1 = step (string_bytes c.args.out.now) (string_bytes c.put-in-And.new.out) (string_bytes c.push_pattern.new.out) (codes "{ ") (pattern_text c.get.result.now) (pattern_text c.in-And.left) c.in_ok-put-in-And.ensures c.in_ok-push_pattern-in-And.ensures (ap pattern_text c.get.ensures) in
    let t2 = step (string_bytes c.args.out.now) (string_bytes c.push_pattern.new.out) (string_bytes c.put-in-And-2.new.out) (codes "{ " ++ pattern_text c.in-And.left) (codes " ") (codes " ") t1 c.in_ok-put-in-And-2.ensures refl in
    let t3 = step (string_bytes c.args.out.now) (string_bytes c.put-in-And-2.new.out) (string_bytes c.push_pattern-in-And.new.out) (codes "{ " ++ pattern_text c.in-And.left ++ codes " ") (pattern_text c.get-in-And.result.now) (pattern_text c.in-And.right) t2 c.in_ok-push_pattern-in-And-2.ensures (ap pattern_text c.get-in-And.ensures) in
    step (string_bytes c.args.out.now) (string_bytes c.push_pattern-in-And.new.out) (string_bytes c.put-in-And-3.new.out) (codes "{ " ++ pattern_text c.in-And.left ++ codes " " ++ pattern_text c.in-And.right) (codes " }") (codes " }") t3 c.in_ok-put-in-And-3.ensures refl ∙ ap (λ t. string_bytes c.args.out.now ++ t) (sym (ap pattern_text c.in-And.is ∙ text_and c.in-And.left c.in-And.right))

pub returns-in_ok-put-in-Union-3 : goal.returns-in_ok-put-in-Union-3
returns-in_ok-put-in-Union-3 t c =
    let t1 = step (string_bytes c.args.out.now) (string_bytes c.put-in-Union.new.out) (string_bytes c.push_pattern-in-Union.new.out) (codes "{ ") (pattern_text c.get-in-Union.result.now) (pattern_text c.in-Union.left) c.in_ok-put-in-Union.ensures c.in_ok-push_pattern-in-Union.ensures (ap pattern_text c.get-in-Union.ensures) in
    let t2 = step (string_bytes c.args.out.now) (string_bytes c.push_pattern-in-Union.new.out) (string_bytes c.put-in-Union-2.new.out) (codes "{ " ++ pattern_text c.in-Union.left) (codes " UNION ") (codes " UNION ") t1 c.in_ok-put-in-Union-2.ensures refl in
    let t3 = step (string_bytes c.args.out.now) (string_bytes c.put-in-Union-2.new.out) (string_bytes c.push_pattern-in-Union-2.new.out) (codes "{ " ++ pattern_text c.in-Union.left ++ codes " UNION ") (pattern_text c.get-in-Union-2.result.now) (pattern_text c.in-Union.right) t2 c.in_ok-push_pattern-in-Union-2.ensures (ap pattern_text c.get-in-Union-2.ensures) in
    step (string_bytes c.args.out.now) (string_bytes c.push_pattern-in-Union-2.new.out) (string_bytes c.put-in-Union-3.new.out) (codes "{ " ++ pattern_text c.in-Union.left ++ codes " UNION " ++ pattern_text c.in-Union.right) (codes " }") (codes " }") t3 c.in_ok-put-in-Union-3.ensures refl ∙ ap (λ t. string_bytes c.args.out.now ++ t) (sym (ap pattern_text c.in-Union.is ∙ text_union c.in-Union.left c.in-Union.right))

pub returns-in_ok-put-in-Minus-3 : goal.returns-in_ok-put-in-Minus-3
returns-in_ok-put-in-Minus-3 t c =
    let t1 = step (string_bytes c.args.out.now) (string_bytes c.put-in-Minus.new.out) (string_bytes c.push_pattern-in-Minus.new.out) (codes "{ ") (pattern_text c.get-in-Minus.result.now) (pattern_text c.in-Minus.left) c.in_ok-put-in-Minus.ensures c.in_ok-push_pattern-in-Minus.ensures (ap pattern_text c.get-in-Minus.ensures) in
    let t2 = step (string_bytes c.args.out.now) (string_bytes c.push_pattern-in-Minus.new.out) (string_bytes c.put-in-Minus-2.new.out) (codes "{ " ++ pattern_text c.in-Minus.left) (codes " MINUS ") (codes " MINUS ") t1 c.in_ok-put-in-Minus-2.ensures refl in
    let t3 = step (string_bytes c.args.out.now) (string_bytes c.put-in-Minus-2.new.out) (string_bytes c.push_pattern-in-Minus-2.new.out) (codes "{ " ++ pattern_text c.in-Minus.left ++ codes " MINUS ") (pattern_text c.get-in-Minus-2.result.now) (pattern_text c.in-Minus.right) t2 c.in_ok-push_pattern-in-Minus-2.ensures (ap pattern_text c.get-in-Minus-2.ensures) in
    step (string_bytes c.args.out.now) (string_bytes c.push_pattern-in-Minus-2.new.out) (string_bytes c.put-in-Minus-3.new.out) (codes "{ " ++ pattern_text c.in-Minus.left ++ codes " MINUS " ++ pattern_text c.in-Minus.right) (codes " }") (codes " }") t3 c.in_ok-put-in-Minus-3.ensures refl ∙ ap (λ t. string_bytes c.args.out.now ++ t) (sym (ap pattern_text c.in-Minus.is ∙ text_minus c.in-Minus.left c.in-Minus.right))

pub returns-in_ok-put-in-LeftJoin-3 : goal.returns-in_ok-put-in-LeftJoin-3
returns-in_ok-put-in-LeftJoin-3 t c =
    let t1 = step (string_bytes c.args.out.now) (string_bytes c.put-in-LeftJoin.new.out) (string_bytes c.push_pattern-in-LeftJoin.new.out) (codes "{ ") (pattern_text c.get-in-LeftJoin.result.now) (pattern_text c.in-LeftJoin.left) c.in_ok-put-in-LeftJoin.ensures c.in_ok-push_pattern-in-LeftJoin.ensures (ap pattern_text c.get-in-LeftJoin.ensures) in
    let t2 = step (string_bytes c.args.out.now) (string_bytes c.push_pattern-in-LeftJoin.new.out) (string_bytes c.put-in-LeftJoin-2.new.out) (codes "{ " ++ pattern_text c.in-LeftJoin.left) (codes " OPTIONAL { ") (codes " OPTIONAL { ") t1 c.in_ok-put-in-LeftJoin-2.ensures refl in
    let t3 = step (string_bytes c.args.out.now) (string_bytes c.put-in-LeftJoin-2.new.out) (string_bytes c.push_pattern-in-LeftJoin-2.new.out) (codes "{ " ++ pattern_text c.in-LeftJoin.left ++ codes " OPTIONAL { ") (pattern_text c.get-in-LeftJoin-2.result.now) (pattern_text c.in-LeftJoin.right) t2 c.in_ok-push_pattern-in-LeftJoin-2.ensures (ap pattern_text c.get-in-LeftJoin-2.ensures) in
    let t4 = step (string_bytes c.args.out.now) (string_bytes c.push_pattern-in-LeftJoin-2.new.out) (string_bytes c.push_filter_unless_true.new.out) (codes "{ " ++ pattern_text c.in-LeftJoin.left ++ codes " OPTIONAL { " ++ pattern_text c.in-LeftJoin.right) (filter_unless_true c.in-LeftJoin.condition) (filter_unless_true c.in-LeftJoin.condition) t3 c.in_ok-push_filter_unless_true-in-LeftJoin.ensures refl in
    step (string_bytes c.args.out.now) (string_bytes c.push_filter_unless_true.new.out) (string_bytes c.put-in-LeftJoin-3.new.out) (codes "{ " ++ pattern_text c.in-LeftJoin.left ++ codes " OPTIONAL { " ++ pattern_text c.in-LeftJoin.right ++ filter_unless_true c.in-LeftJoin.condition) (codes " } }") (codes " } }") t4 c.in_ok-put-in-LeftJoin-3.ensures refl ∙ ap (λ t. string_bytes c.args.out.now ++ t) (sym (ap pattern_text c.in-LeftJoin.is ∙ text_left c.in-LeftJoin.left c.in-LeftJoin.right c.in-LeftJoin.condition))

pub returns-in_ok-put-in-Filter-2 : goal.returns-in_ok-put-in-Filter-2
returns-in_ok-put-in-Filter-2 t c =
    let t1 = step (string_bytes c.args.out.now) (string_bytes c.put-in-Filter.new.out) (string_bytes c.push_pattern-in-Filter.new.out) (codes "{ ") (pattern_text c.get-in-Filter.result.now) (pattern_text c.in-Filter.part) c.in_ok-put-in-Filter.ensures c.in_ok-push_pattern-in-Filter.ensures (ap pattern_text c.get-in-Filter.ensures) in
    let t2 = step (string_bytes c.args.out.now) (string_bytes c.push_pattern-in-Filter.new.out) (string_bytes c.push_filter.new.out) (codes "{ " ++ pattern_text c.in-Filter.part) (filter_text c.in-Filter.condition) (filter_text c.in-Filter.condition) t1 c.in_ok-push_filter-in-Filter.ensures refl in
    step (string_bytes c.args.out.now) (string_bytes c.push_filter.new.out) (string_bytes c.put-in-Filter-2.new.out) (codes "{ " ++ pattern_text c.in-Filter.part ++ filter_text c.in-Filter.condition) (codes " }") (codes " }") t2 c.in_ok-put-in-Filter-2.ensures refl ∙ ap (λ t. string_bytes c.args.out.now ++ t) (sym (ap pattern_text c.in-Filter.is ∙ text_filter c.in-Filter.part c.in-Filter.condition))

pub returns-in_ok-put-in-Select-3 : goal.returns-in_ok-put-in-Select-3
returns-in_ok-put-in-Select-3 t c =
    let t1 = step (string_bytes c.args.out.now) (string_bytes c.put-in-Select.new.out) (string_bytes c.push_renames.new.out) (codes "{ SELECT ") (spaced (map rename_text c.as_slice.result.now)) (spaced (map rename_text c.in-Select.renames)) c.in_ok-put-in-Select.ensures c.in_ok-push_renames-in-Select.ensures (ap (λ rs. spaced (map rename_text rs)) c.as_slice.ensures) in
    let t2 = step (string_bytes c.args.out.now) (string_bytes c.push_renames.new.out) (string_bytes c.put-in-Select-2.new.out) (codes "{ SELECT " ++ spaced (map rename_text c.in-Select.renames)) (codes " WHERE ") (codes " WHERE ") t1 c.in_ok-put-in-Select-2.ensures refl in
    let t3 = step (string_bytes c.args.out.now) (string_bytes c.put-in-Select-2.new.out) (string_bytes c.push_pattern-in-Select.new.out) (codes "{ SELECT " ++ spaced (map rename_text c.in-Select.renames) ++ codes " WHERE ") (pattern_text c.get-in-Select.result.now) (pattern_text c.in-Select.part) t2 c.in_ok-push_pattern-in-Select.ensures (ap pattern_text c.get-in-Select.ensures) in
    step (string_bytes c.args.out.now) (string_bytes c.push_pattern-in-Select.new.out) (string_bytes c.put-in-Select-3.new.out) (codes "{ SELECT " ++ spaced (map rename_text c.in-Select.renames) ++ codes " WHERE " ++ pattern_text c.in-Select.part) (codes " }") (codes " }") t3 c.in_ok-put-in-Select-3.ensures refl ∙ ap (λ t. string_bytes c.args.out.now ++ t) (sym (ap pattern_text c.in-Select.is ∙ text_select c.in-Select.part c.in-Select.renames))
