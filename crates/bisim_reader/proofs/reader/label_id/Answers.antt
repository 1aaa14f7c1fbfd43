-- A model that passes has as many label values as it counts; a value is listed if it has a place among them.
use Rattle.std.proofs.Common.{rules, sym, ap, ◌∙◌, Ok, take}
use borrow.Author.Tests.{tests}
use lib.Seq.{length-take-le}
use Rattle.numbers.proofs.Refuses.{answered_ok}
use Rattle.numbers.specs.Search.{place}
use Rattle.bisim_core.specs.declared.wlts.Shape.{Shape}
use Rattle.bisim_core.specs.Data.{columns_of}
use Rattle.bisim_core.specs.Model.{label_id}
use Rattle.bisim_core.proofs.Interning.{id_at}
use Rattle.bisim_reader.proofs.Answers.{passed}
use Rattle.bisim_reader.proofs.reader.label_id.Goals as goal

pub slice_bounds-seek-end : goal.slice_bounds-seek-end
slice_bounds-seek-end c =
    let M = c.args.model.now in
    rw c.in_ok-counts.ensures.counts (sym (length-take-le M.shape.labels M.label_values.now (passed M.shape (columns_of M) (sym c.in_ok-counts.ensures.refusal)).1.room.labels_in))

pub returns : goal.returns
unfolding label_id
returns c =
    let V = c.args.model.now.label_values.now in
    let l = take c.args.model.now.shape.labels V in
    let placed = c.seek-place.ensures ∙ ap (λ (S : Shape). place c.args.value (take S.labels V)) c.in_ok-counts.ensures.counts in
    ap Ok (id_at c.args.value l _ _ c.map.ensures.cases (λ i y q. search (rules, tests)) placed) ∙ answered_ok _ _ c.in_ok-counts.ensures.refusal
