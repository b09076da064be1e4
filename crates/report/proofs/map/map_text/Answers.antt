use Rattle.std.proofs.Common.{sym, ◌∙◌, ap}
use Rattle.report.specs.DeadMap.{level_at}
use Rattle.report.proofs.map.map_text.Goals as goal

pub returns-in-Ok-text-clause-ok : goal.returns-in-Ok-text-clause-ok
returns-in-Ok-text-clause-ok g c = record {
  levels = c.in-Ok.levels.items;
  collection = record { short = c.requires; levels_are = c.in-Ok.ensures.ok; few = c.in-Ok.ensures.few };
  rows = c.in-Some.level.now;
  level_is = ap (λ levels. level_at levels c.args.n) (sym c.deref.ensures.value) ∙ sym c.in-Some.ensures;
  level = c.in-Ok-board.board;
  legal = c.in-Ok-board.ensures.ok;
  map = c.in-Ok-text.ensures;
}
