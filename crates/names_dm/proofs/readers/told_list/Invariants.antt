use Rattle.std.proofs.Common.{◌≡◌, length, chars}
use Rattle.std.specs.Str.{IsUtf8}
use Rattle.names_dm.specs.Reading.{list_of}
use Rattle.names_dm.proofs.TextLists.{with_more}
use Rattle.names_dm.proofs.readers.told_list.Given as goal

-- the list is what is told so far, and what the rest tells
abbrev pub invariant-parts : goal.invariant-parts
invariant-parts l = (list_of (chars l.text) ≡ with_more l.texts (list_of (chars l.rest))) × IsUtf8 l.rest

abbrev pub decreases-parts : goal.decreases-parts
decreases-parts l = length l.rest
