use Rattle.std.proofs.Common.{◌≡◌, sym, ◌∙◌}
use Rattle.roles_dm.specs.declared.role.Role.TheVariants.{Class, Column, Link, Nothing}
use Rattle.roles_dm.proofs.SeenLemmas.{is_class, is_none, is_other}
use Rattle.roles_dm.proofs.seen.is_class.Goals as goal

pub returns-in_default : goal.returns-in_default
returns-in_default c = is_none c.args.roles.now c.args.number (sym c.in_default.ensures)

pub returns-in-Class : goal.returns-in-Class
returns-in-Class c = is_class c.args.roles.now c.args.number c.in-Some.role.now c.in-Class.field-0 (sym c.in-Some.ensures) c.in-Class.is

pub returns-in-Column : goal.returns-in-Column
returns-in-Column c = is_other c.args.roles.now c.args.number c.in-Some.role.now (sym c.in-Some.ensures) (λ t e. let f : Column c.in-Column.field-0 ≡ Class t = sym c.in-Column.is ∙ e in cc)

pub returns-in-Link : goal.returns-in-Link
returns-in-Link c = is_other c.args.roles.now c.args.number c.in-Some.role.now (sym c.in-Some.ensures) (λ t e. let f : Link c.in-Link.field-0 ≡ Class t = sym c.in-Link.is ∙ e in cc)

pub returns-in-Nothing : goal.returns-in-Nothing
returns-in-Nothing c = is_other c.args.roles.now c.args.number c.in-Some.role.now (sym c.in-Some.ensures) (λ t e. let f : Nothing ≡ Class t = sym c.in-Nothing.is ∙ e in cc)
