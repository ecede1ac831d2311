use Rattle.std.proofs.Common.{◌↔◌, ◌⊎◌, List, ℕ, get_or, refl, subst}
use Rattle.std.proofs.lemmas.List.{take_all}
use Rattle.members_dm.specs.Membership.{IsIn}
use Rattle.schema_dm.specs.Naming.{Name}
use Rattle.algebra_dm.specs.Checking.{IsKeyName}
use Rattle.algebra_dm.proofs.ColumnLemmas.{key_more}
use Rattle.algebra_dm.proofs.columns.push_names_at.Goals as goal

pub loop-place-preserved : goal.loop-place-preserved
loop-place-preserved c =
    key_more c.args.columns.now c.args.places.now c.args.names.now.items c.loop-place.names.items c.push_name_at.new.names.items c.loop-place.place-index
    (get_or c.args.places.now c.loop-place.place-index 0) c.loop-place-test.true refl c.loop-place.invariant c.in_ok-push_name_at.ensures

pub returns : goal.returns
returns c =
    subst (λ (ps : List ℕ). (a : Name) → IsIn a c.loop-place.names.items ↔ (IsIn a c.args.names.now.items ⊎ IsKeyName c.args.columns.now ps a))
    (take_all c.loop-place.place-index c.args.places.now c.loop-place-test.false) c.loop-place.invariant
