use Rattle.std.proofs.Common.{◌∙◌}
use Rattle.program.proofs.Said.{said, with_feed}
use Rattle.program.proofs.words.print_line.Goals as goal

pub returns : goal.returns
returns g c =
    let line = with_feed _ _ _ _ c.new-line.ensures.text c.requires c.and_str.ensures.within c.and_str-line.ensures.within in
    said g.E.Sink _ _ _ _ (rw (c.as_bytes.ensures.value ∙ c.as_str.ensures.value ∙ line) at c.write_whole.ensures)
