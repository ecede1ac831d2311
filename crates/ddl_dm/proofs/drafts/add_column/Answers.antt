use Rattle.std.proofs.Common.{◌≡◌, List, ap, ◌∙◌, [], ◌∷◌, subst}
use Rattle.std.specs.List.{flat_map}
use Rattle.ddl_syntax_dm.specs.declared.syntax.Constraint.{Constraint}
use Rattle.ddl_dm.specs.Meaning.{constraint_keys, column_of}
use Rattle.ddl_dm.specs.Building.{extended}
use Rattle.ddl_dm.proofs.Growth.{extended_twice}
use Rattle.ddl_dm.proofs.drafts.add_column.Goals as goal

pub returns : goal.returns
returns c =
    let P : List Constraint → Type 0 = λ xs. c.add_constraints.new.draft ≡ extended c.push_column.new.draft [] (flat_map (constraint_keys c.args.column.now.name) xs) in
    let keys = flat_map (constraint_keys c.args.column.now.name) c.args.column.now.constraints in
    subst P c.as_slice.ensures c.in_ok-add_constraints.ensures ∙ ap (λ d. extended d [] keys) c.in_ok-push_column.ensures
    ∙ extended_twice c.args.draft.now (column_of c.args.column.now ∷ []) [] [] keys
