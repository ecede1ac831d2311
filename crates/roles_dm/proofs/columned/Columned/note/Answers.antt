use Rattle.std.proofs.Common.{◌≡◌, ◌∙◌, sym}
use Rattle.roles_dm.specs.declared.role.Role.TheVariants.{Class, Column, Link, Nothing}
use Rattle.roles_dm.proofs.ColumnedLemmas.{notes_column, notes_none}
use Rattle.roles_dm.proofs.columned.Columned.note.Goals as goal

pub returns-in_ok-insert-in-Column : goal.returns-in_ok-insert-in-Column
returns-in_ok-insert-in-Column c = notes_column c.args.self.now (record { classes = c.insert.new.self }) c.args.role.now c.in-Column.column c.in-Column.is (λ n. c.in_ok-insert-in-Column.ensures.updates.0 n)

pub returns-in-Class : goal.returns-in-Class
returns-in-Class c = notes_none c.args.self.now c.args.role.now (λ column e. let f : Class c.in-Class.field-0 ≡ Column column = sym c.in-Class.is ∙ e in cc)

pub returns-in-Link : goal.returns-in-Link
returns-in-Link c = notes_none c.args.self.now c.args.role.now (λ column e. let f : Link c.in-Link.field-0 ≡ Column column = sym c.in-Link.is ∙ e in cc)

pub returns-in-Nothing : goal.returns-in-Nothing
returns-in-Nothing c = notes_none c.args.self.now c.args.role.now (λ column e. let f : Nothing ≡ Column column = sym c.in-Nothing.is ∙ e in cc)
