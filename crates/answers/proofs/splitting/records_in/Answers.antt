use Rattle.std.proofs.Common.{◌≡◌, ◌++◌, [], ◌∷◌, map, sym, ap, ◌∙◌, append_assoc}
use Rattle.std.proofs.lemmas.List.{append-nil, map_push}
use Rattle.answers.specs.FirstFault.{last_level}
use Rattle.answers.specs.Held.{kept_in}
use Rattle.answers.specs.Reading.{LevelDue, entry_of, run}
use Rattle.answers.proofs.Runs.{last_level-push}
use Rattle.answers.proofs.splitting.records_in.Goals as goal

pub loop-records-preserved : goal.loop-records-preserved
loop-records-preserved c =
    let same = c.loop-records.invariant in
    let before = map entry_of c.loop-records.records.items in
    let found = entry_of c.in-Some.found in
    let read = rw c.in-Some.is at c.in_ok-found.ensures.some in
    let count = rw c.in-Some.is at c.in_ok-found.ensures.count in
    let more : map entry_of c.push.new.self.items ≡ before ++ found ∷ [] =
    ap (map entry_of) c.in-Ok.ensures.items ∙ map_push entry_of c.loop-records.records.items c.in-Some.found in
    record {
      so_far = same.so_far ∙ read before same.last ∙ ap (λ es. run c.args.version c.args.levels es LevelDue (kept_in c.in-Some.rest)) (sym more);
      last = ap last_level more ∙ last_level-push before found;
      count = count ∙ same.count;
      places = λ more are.
          rw (c.in-Ok.ensures.items, append_assoc) (same.places (c.in-Some.found ∷ more)
          (c.in-Some.rest.text.now, c.in-Some.rest.before, rw c.in-Some.is at c.in_ok-found.ensures.place, are));
    }

pub returns-clause-places : goal.returns-clause-places
returns-clause-places c = rw (append-nil c.loop-records.records.items) at (c.loop-records.invariant.places [] (rw c.in_default.is at c.in_ok-found.ensures.none))
