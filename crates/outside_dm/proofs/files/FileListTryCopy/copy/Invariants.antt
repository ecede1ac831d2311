use Rattle.std.proofs.Common.{◌≡◌, take}
use Rattle.outside_dm.proofs.files.FileListTryCopy.copy.Given as goal

-- the first files are copied
abbrev pub invariant-loop-file : goal.invariant-loop-file
invariant-loop-file l = l.items.items ≡ take l.file-index l.self
