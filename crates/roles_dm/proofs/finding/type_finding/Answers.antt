use Rattle.std.proofs.Common.{sym}
use Rattle.facts_dm.specs.Facts.{word_term}
use Rattle.facts_dm.specs.declared.word.Word.TheVariants.{OwlClass, OwlDatatypeProperty, OwlObjectProperty}
use Rattle.roles_dm.proofs.FindingLemmas.{no_role, object_at, object_is, object_number, role_is}
use Rattle.roles_dm.proofs.finding.type_finding.Goals as goal

pub returns-then-numbers-words : goal.returns-then-numbers-words
returns-then-numbers-words c base g G x t are h p =
    c.class_finding.ensures base g c.args.words.now c.args.roles.now G x t are h p
    (object_is base g c.args.words.now c.args.roles.now G x c.args.numbers t (word_term OwlClass) c.args.words.now.class t.read.words.class c.if-numbers-words.true)

pub returns-then-numbers-words-2 : goal.returns-then-numbers-words-2
returns-then-numbers-words-2 c base g G x t are h p =
    c.literals_finding.ensures base g c.args.words.now c.args.roles.now G x c.args.numbers t h p
    (object_is base g c.args.words.now c.args.roles.now G x c.args.numbers t (word_term OwlDatatypeProperty) c.args.words.now.datatype_property t.read.words.datatype_property c.if-numbers-words-2.true)

pub returns-then-numbers-words-3 : goal.returns-then-numbers-words-3
returns-then-numbers-words-3 c base g G x t are h p =
    c.nodes_finding.ensures base g c.args.words.now c.args.roles.now G x c.args.numbers t h p
    (object_is base g c.args.words.now c.args.roles.now G x c.args.numbers t (word_term OwlObjectProperty) c.args.words.now.object_property t.read.words.object_property c.if-numbers-words-3.true)

pub returns-in-Some : goal.returns-in-Some
returns-in-Some c base g G x t are h p =
    c.node_finding.ensures base g c.args.words.now c.args.roles.now G x c.args.numbers t
    (role_is base g c.args.words.now c.args.roles.now G t.read c.args.numbers.object x.object c.in-Some.object.now (object_at base g c.args.words.now c.args.roles.now G x c.args.numbers t) (sym c.in-Some.ensures)) p
    (λ e. c.if-numbers-words.false (object_number base g c.args.words.now c.args.roles.now G x c.args.numbers t (word_term OwlClass) c.args.words.now.class t.read.words.class e))
    (λ e. c.if-numbers-words-2.false (object_number base g c.args.words.now c.args.roles.now G x c.args.numbers t (word_term OwlDatatypeProperty) c.args.words.now.datatype_property t.read.words.datatype_property e))
    (λ e. c.if-numbers-words-3.false (object_number base g c.args.words.now c.args.roles.now G x c.args.numbers t (word_term OwlObjectProperty) c.args.words.now.object_property t.read.words.object_property e))

pub returns-in-None : goal.returns-in-None
returns-in-None c base g G x t are h p = absurd (no_role base g c.args.words.now c.args.roles.now G t.read c.args.numbers.object x.object (object_at base g c.args.words.now c.args.roles.now G x c.args.numbers t) (sym c.in-None.ensures))
