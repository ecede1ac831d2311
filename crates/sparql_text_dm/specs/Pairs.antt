-- Two patterns joined.
use Rattle.pattern_dm.specs.declared.pattern.Pattern.{Pattern}
use Rattle.pattern_dm.specs.declared.pattern.Pattern.TheVariants as patterns
use Rattle.sparql_text_dm.specs.declared.pairing.Pairing.{Pairing}
use Rattle.sparql_text_dm.specs.declared.pairing.Pairing.TheVariants.{And, Union, Minus}

abbrev pub paired : Pairing → Pattern → Pattern → Pattern
paired And p q = patterns.And p q
paired Union p q = patterns.Union p q
paired Minus p q = patterns.Minus p q
