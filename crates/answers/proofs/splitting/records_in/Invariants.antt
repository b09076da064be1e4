use Rattle.std.proofs.Common.{◌≡◌, List, [], ◌++◌, length, map}
use Rattle.answers.specs.FirstFault.{last_level}
use Rattle.answers.specs.Held.{line_count, kept_in}
use Rattle.answers.specs.Reading.{LevelDue, entry_of, run}
use Rattle.answers.specs.Records.{AreRecordsFrom}
use Rattle.answers.specs.declared.record_text.RecordText.{RecordText}
use Rattle.answers.proofs.splitting.records_in.Given as goal

abbrev pub invariant-loop-records : goal.invariant-loop-records
invariant-loop-records l = record {
  so_far : run l.version l.levels [] LevelDue (kept_in l.lines) ≡ run l.version l.levels (map entry_of l.records.items) LevelDue (kept_in l.left);
  last : last_level (map entry_of l.records.items) ≡ l.last;
  count : line_count l.left ≡ line_count l.lines;
  places : (more : List RecordText) → AreRecordsFrom l.version l.left.before l.left.text.now more
      → AreRecordsFrom l.version l.lines.before l.lines.text.now (l.records.items ++ more);
}

abbrev pub decreases-loop-records : goal.decreases-loop-records
decreases-loop-records l = length l.left.text.now
