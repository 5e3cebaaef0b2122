-- `read` is `read_page` with service minutes of its own. Assumes nothing.
use Rattle.sheet_reader.proofs.LoadedLaws.{all_loaded}
use Rattle.sheet_reader.proofs.read.Goals as goal

pub returns-clause-loaded : goal.returns-clause-loaded
returns-clause-loaded c = all_loaded c.args.sheet.now _ _ _ c.read_page.result c.read_page.ensures.loaded
