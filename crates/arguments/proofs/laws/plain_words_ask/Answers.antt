use Rattle.arguments.proofs.Spellings.{spelled}
use Rattle.arguments.proofs.laws.plain_words_ask.Goals as goal

pub returns : goal.returns
returns c = λ words request plain. let taken = spelled request plain in (taken.faultless, taken.found)
