-- Queries whose values obey the rules of their types.
use Rattle.value_dm.specs.Lawful.{IsLawful}
use Rattle.algebra_dm.specs.declared.query.Query.{Query, end_of-Query, more_of-Query}
use Rattle.algebra_dm.specs.declared.query.Query.TheVariants.{Table, Null, Eq', Ne', IsNull', NotNull', Project', Rename', Join', Union', Diff'}

-- each value that the query compares with does
abbrev pub HasLawfulValues : Query → Type 0
HasLawfulValues (Table t) = Unit {0}
HasLawfulValues (Null n) = Unit {0}
HasLawfulValues (Eq' s (more_of-Query p end_of-Query) n v) = HasLawfulValues p × IsLawful v
HasLawfulValues (Ne' s (more_of-Query p end_of-Query) n v) = HasLawfulValues p × IsLawful v
HasLawfulValues (IsNull' s (more_of-Query p end_of-Query) n) = HasLawfulValues p
HasLawfulValues (NotNull' s (more_of-Query p end_of-Query) n) = HasLawfulValues p
HasLawfulValues (Project' s (more_of-Query p end_of-Query) names) = HasLawfulValues p
HasLawfulValues (Rename' s (more_of-Query p end_of-Query) from to) = HasLawfulValues p
HasLawfulValues (Join' s (more_of-Query p end_of-Query) s' (more_of-Query q end_of-Query)) = HasLawfulValues p × HasLawfulValues q
HasLawfulValues (Union' s (more_of-Query p end_of-Query) s' (more_of-Query q end_of-Query)) = HasLawfulValues p × HasLawfulValues q
HasLawfulValues (Diff' s (more_of-Query p end_of-Query) s' (more_of-Query q end_of-Query)) = HasLawfulValues p × HasLawfulValues q
