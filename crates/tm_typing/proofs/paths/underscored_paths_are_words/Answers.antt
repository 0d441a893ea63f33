use Rattle.tm_typing.proofs.Underscored.{underscored_word}
use Rattle.tm_typing.proofs.paths.underscored_paths_are_words.Goals as goal

pub returns : goal.returns
returns c = underscored_word
