use Rattle.std.proofs.Common.{rules}
use Rattle.sheet.proofs.Plain.{words_short, words_split}
use Rattle.sheet.proofs.word.split_word.Goals as goal

pub returns-in_err-word : goal.returns-in_err-word
returns-in_err-word c = search (rules, words_short)

pub returns : goal.returns
returns c = search (rules, words_split)
