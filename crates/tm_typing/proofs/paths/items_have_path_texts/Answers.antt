use Rattle.tm_typing.proofs.PathTexts.{path_texts}
use Rattle.tm_typing.proofs.paths.items_have_path_texts.Goals as goal

pub returns : goal.returns
returns c = path_texts
