use Rattle.std.proofs.Common.{ap, sym, ◌∙◌, refl}
use Rattle.sqlite_tables.specs.Tables.{Entry}
use Rattle.sqlite_tables.specs.declared.stored.StoredEntry.{StoredEntry}
use Rattle.store.proofs.Transfer.{at_entry, head_like}
use Rattle.store.proofs.head.read_head.Goals as goal
use Rattle.store.proofs.head.read_head.Goals.{else-is_entry-via-then-is_entry+then-is_entry-2+then-is_entry-3+then-is_entry-4+then-entries-eq1+else-is_within, else-is_entry-via-then-is_entry+then-is_entry-2+then-is_entry-3+then-is_entry-4+else-entries-eq1, else-is_entry-via-then-is_entry+then-is_entry-2+then-is_entry-3+else-is_entry-4, else-is_entry-via-then-is_entry+then-is_entry-2+else-is_entry-3, else-is_entry-via-then-is_entry+else-is_entry-2, else-is_entry-via-else-is_entry}

pub returns-clause-refuses : goal.returns-clause-refuses
returns-clause-refuses c = λ _ (head, is, same).
    let es = c.args.entries.now in
    elim c.else-is_entry.branch [
      | else-is_entry-via-then-is_entry+then-is_entry-2+then-is_entry-3+then-is_entry-4+then-entries-eq1+else-is_within w ↦
          let number = sym (ap (λ (e : StoredEntry). e.value) c.index-entries-3.is) ∙ ap (λ (e : Entry). e.value) (at_entry es head same 3 c.index-entries-3.result c.index-entries-3.is) in
          let floor = sym (ap (λ (e : StoredEntry). e.value) c.index-entries-0.is) ∙ ap (λ (e : Entry). e.value) (at_entry es head same 0 c.index-entries-0.result c.index-entries-0.is) in
          let newest = sym (ap (λ (e : StoredEntry). e.value) c.index-entries-2.is) ∙ ap (λ (e : Entry). e.value) (at_entry es head same 2 c.index-entries-2.result c.index-entries-2.is) in
          w.if-is_within.ensures.refuses refl (head_like _ _ _ head number floor newest is)
      | else-is_entry-via-then-is_entry+then-is_entry-2+then-is_entry-3+then-is_entry-4+else-entries-eq1 w ↦
          w.if-entries-eq1.false (sym (ap (λ (e : StoredEntry). e.value) w.index-entries-1-then-is_entry-4.is) ∙ ap (λ (e : Entry). e.value) (at_entry es head same 1 w.index-entries-1-then-is_entry-4.result w.index-entries-1-then-is_entry-4.is))
      | else-is_entry-via-then-is_entry+then-is_entry-2+then-is_entry-3+else-is_entry-4 w ↦
          w.if-is_entry-4.ensures.refuses refl head.number (at_entry es head same 3 w.index-entries-3-then-is_entry-3.result w.index-entries-3-then-is_entry-3.is)
      | else-is_entry-via-then-is_entry+then-is_entry-2+else-is_entry-3 w ↦
          w.if-is_entry-3.ensures.refuses refl head.newest (at_entry es head same 2 w.index-entries-2-then-is_entry-2.result w.index-entries-2-then-is_entry-2.is)
      | else-is_entry-via-then-is_entry+else-is_entry-2 w ↦
          w.if-is_entry-2.ensures.refuses refl 1 (at_entry es head same 1 w.index-entries-1.result w.index-entries-1.is)
      | else-is_entry-via-else-is_entry w ↦
          w.if-is_entry.ensures.refuses refl head.floor (at_entry es head same 0 c.index-entries-0-2.result c.index-entries-0-2.is)
    ]
