use Rattle.std.proofs.{Common.refl, Common.◌∙◌, Common.ap, Common.length, lemmas.Bool.false≢true, lemmas.List.get_or-replicate, lemmas.List.length-replicate, lemmas.Option.none-some}
use Rattle.closure.proofs.GroupPushes.{covers_all}
use Rattle.closure.proofs.checking.first_fault.Goals as goal

pub note_hinted-requires-clause-covered : goal.note_hinted-requires-clause-covered
note_hinted-requires-clause-covered g c =
    let all = c.in_ok-covered.ensures.items_if_clones_equal (λ _ e. e) in
    record {
      long = ap (λ l. length l) all ∙ length-replicate _ _ ∙ c.len.ensures ∙ c.args.tables.now.groups.spans.ok.0;
      covers = λ h lt yes. let low = rw (all, length-replicate) at lt in absurd (false≢true (rw (all, get_or-replicate) at yes));
    }

pub returns-then-are_all-clause-ok : goal.returns-then-are_all-clause-ok
returns-then-are_all-clause-ok g c = record {
  lawful = c.requires.tables.lawful;
  start = c.requires.start;
  pushes = covers_all c.args.tables.now.board.now c.args.tables.now.groups c.note_hinted.new.covered.items c.note_hinted.ensures c.requires.tables.grouped
      (rw c.deref.ensures.value at (c.if-are_all.ensures refl));
}

pub note_settled-requires : goal.note_settled-requires
note_settled-requires g c = record {
  tables = c.requires.tables;
  checker = record {
    noted = c.note_hinted.ensures;
    are = c.in_ok-lookups.ensures;
    free = λ h is. absurd (none-some h is);
    rest = λ h is. absurd (none-some h is);
  };
}
