use Rattle.std.proofs.Common.{sym}
use Rattle.outside_dm.proofs.Transferring.{stores_in_folder}
use Rattle.outside_dm.proofs.folder_shelf.write_file.Goals as goal

pub returns-in-Ok : goal.returns-in-Ok
returns-in-Ok g c =
    stores_in_folder g.R.Folder.has_made g.R.Writer.Writer.has_made _ c.make_folder.new.self _ _ _ _ _ tt (sym c.in-Some.ensures) c.in-Ok.ensures.call c.create_file-in-Ok.ensures
