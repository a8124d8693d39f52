-- The next place is the one that follows, so what is shown of a frame and that place holds.
use Rattle.std.proofs.Common.{◌≡◌, rules}
use Rattle.pickers.specs.Turns.{following}
use Rattle.pickers.specs.FrameLaw.{frame-member, frame-fair}
use Rattle.pickers.proofs.frame.turns.FramePicker.ask.Goals as goal

pub returns : goal.returns
returns c =
    let p = c.args.self.now in
    let next : c.following-self.result ≡ following p.len p.at = search rules in
    let member = frame-member p in
    let fair = frame-fair p c.following-self.result next in
    search rules
