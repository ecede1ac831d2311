use Rattle.std.proofs.Common.{◌≡◌, ℕ, List, sym}
use Rattle.std.proofs.lemmas.Result.{IfOk-weaker}
use Rattle.names_dm.specs.Statements.{Statement}
use Rattle.facts_dm.specs.Vocabulary.{word_iri}
use Rattle.facts_dm.specs.declared.word.Word.TheVariants.{OwlDifferentFrom, RdfType, RdfsDomain, RdfsRange}
use Rattle.roles_dm.specs.Columned.{AreColumned}
use Rattle.roles_dm.specs.Findings.{Finds, IsPlainProperty, IsTripleOf}
use Rattle.roles_dm.specs.declared.finding.Finding.{Finding}
use Rattle.roles_dm.proofs.FindingLemmas.{no_role, plain_property, predicate_is, role_is, subject_at}
use Rattle.roles_dm.proofs.finding.finding_of.Goals as goal

pub returns-in_default : goal.returns-in_default
returns-in_default c base G x t are o = absurd (no_role base c.args.graph.now c.args.words.now c.args.roles.now G t.read c.args.numbers.subject x.subject (subject_at base c.args.graph.now c.args.words.now c.args.roles.now G x c.args.numbers t) (sym c.in_default.ensures))

pub returns-then-numbers-words : goal.returns-then-numbers-words
returns-then-numbers-words c base G x t are o =
    c.type_finding.ensures base c.args.graph.now G x t are
    (role_is base c.args.graph.now c.args.words.now c.args.roles.now G t.read c.args.numbers.subject x.subject c.in-Some.subject.now (subject_at base c.args.graph.now c.args.words.now c.args.roles.now G x c.args.numbers t) (sym c.in-Some.ensures))
    (predicate_is base c.args.graph.now c.args.words.now c.args.roles.now G x c.args.numbers t (word_iri RdfType) c.args.words.now.rdf_type t.read.words.rdf_type c.if-numbers-words.true)

pub returns-then-numbers-words-2 : goal.returns-then-numbers-words-2
returns-then-numbers-words-2 c base G x t are o =
    c.domain_finding.ensures base c.args.graph.now c.args.words.now c.args.roles.now G x t
    (role_is base c.args.graph.now c.args.words.now c.args.roles.now G t.read c.args.numbers.subject x.subject c.in-Some.subject.now (subject_at base c.args.graph.now c.args.words.now c.args.roles.now G x c.args.numbers t) (sym c.in-Some.ensures))
    (predicate_is base c.args.graph.now c.args.words.now c.args.roles.now G x c.args.numbers t (word_iri RdfsDomain) c.args.words.now.domain t.read.words.domain c.if-numbers-words-2.true)

pub returns-then-numbers-words-3 : goal.returns-then-numbers-words-3
returns-then-numbers-words-3 c base G x t are o =
    c.range_finding.ensures base c.args.graph.now c.args.words.now c.args.roles.now G x c.args.numbers t
    (role_is base c.args.graph.now c.args.words.now c.args.roles.now G t.read c.args.numbers.subject x.subject c.in-Some.subject.now (subject_at base c.args.graph.now c.args.words.now c.args.roles.now G x c.args.numbers t) (sym c.in-Some.ensures))
    (predicate_is base c.args.graph.now c.args.words.now c.args.roles.now G x c.args.numbers t (word_iri RdfsRange) c.args.words.now.range t.read.words.range c.if-numbers-words-3.true)

pub returns-then-numbers-words-4 : goal.returns-then-numbers-words-4
returns-then-numbers-words-4 c base G x t are o =
    c.mark_finding.ensures base c.args.graph.now c.args.words.now c.args.roles.now G x t
    (predicate_is base c.args.graph.now c.args.words.now c.args.roles.now G x c.args.numbers t (word_iri OwlDifferentFrom) c.args.words.now.different_from t.read.words.different_from c.if-numbers-words-4.true)

pub returns : goal.returns
returns c = IfOk-weaker c.plain_finding.result
    (λ (f : Finding). (base : List ℕ) (G : List Statement) (x : Statement) → IsTripleOf base c.args.graph.now c.args.words.now c.args.roles.now G x c.args.numbers → x.object ≡ c.args.object.now → IsPlainProperty x → Finds base c.args.graph.now G x f)
    (λ (f : Finding). (base : List ℕ) (G : List Statement) (x : Statement) → IsTripleOf base c.args.graph.now c.args.words.now c.args.roles.now G x c.args.numbers → AreColumned c.args.roles.now c.args.columned.now → x.object ≡ c.args.object.now → Finds base c.args.graph.now G x f)
    (λ f told base G x t are o. told base G x t o (plain_property base c.args.graph.now c.args.words.now c.args.roles.now G x c.args.numbers t c.if-numbers-words.false c.if-numbers-words-2.false c.if-numbers-words-3.false c.if-numbers-words-4.false))
    c.plain_finding.ensures
