-- Nothing is left where the reader stands at the text's end.
use Rattle.texts.proofs.PlaceLaws.{rest-none}
use Rattle.texts.proofs.reader.Reader.is_read.Goals as goal

pub returns : goal.returns
returns c = rw (← c.self.view_is) (rest-none c.self.inside.text.now c.self.inside.at c.self.inside.within)
