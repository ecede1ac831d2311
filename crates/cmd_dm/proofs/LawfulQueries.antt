-- The values in a query that was read obey the rules of their types.
use Rattle.std.proofs.Common.{ℕ, List}
use Rattle.algebra_dm.specs.declared.query.Query.{Query, end_of-Query, more_of-Query}
use Rattle.algebra_dm.specs.declared.query.Query.TheVariants.{Table, Null, Eq', Ne', IsNull', NotNull', Project', Rename', Join', Union', Diff'}
use Rattle.query_text_dm.specs.Answer.{IsTextOfQuery}
use Rattle.query_text_dm.proofs.Lawful.{AreLawfulValues, values_lawful}
use Rattle.keeping_dm.specs.LawfulValues.{HasLawfulValues}

has_lawful : (q : Query) → AreLawfulValues q → HasLawfulValues q
has_lawful (Table t) h = tt
has_lawful (Null n) h = tt
has_lawful (Eq' s (more_of-Query p end_of-Query) n v) h = (has_lawful p h.0, h.1)
has_lawful (Ne' s (more_of-Query p end_of-Query) n v) h = (has_lawful p h.0, h.1)
has_lawful (IsNull' s (more_of-Query p end_of-Query) n) h = has_lawful p h
has_lawful (NotNull' s (more_of-Query p end_of-Query) n) h = has_lawful p h
has_lawful (Project' s (more_of-Query p end_of-Query) names) h = has_lawful p h
has_lawful (Rename' s (more_of-Query p end_of-Query) from to) h = has_lawful p h
has_lawful (Join' s (more_of-Query p end_of-Query) s' (more_of-Query q end_of-Query)) h = (has_lawful p h.0, has_lawful q h.1)
has_lawful (Union' s (more_of-Query p end_of-Query) s' (more_of-Query q end_of-Query)) h = (has_lawful p h.0, has_lawful q h.1)
has_lawful (Diff' s (more_of-Query p end_of-Query) s' (more_of-Query q end_of-Query)) h = (has_lawful p h.0, has_lawful q h.1)

pub read_lawful : (bytes : List ℕ) (q : Query) → IsTextOfQuery bytes q → HasLawfulValues q
read_lawful bytes q h = has_lawful q (values_lawful bytes q h)
