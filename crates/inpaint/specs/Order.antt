-- How far the model got: request P8 of document 02, whose sentences the comments quote, and of the scan's list those of the header,
-- include/cathar.h. The order itself is the rule of the crate `model`, specs/Order.antt. No rule of a repair speaks of it. Definitions
-- only.
use Rattle.std.specs.Prelude.{ℕ, ◌-◌, List, [], ◌∷◌, map, length, replicate, Float}
use Rattle.std.proofs.lemmas.List.Edits.{sets}
use Rattle.leaves.specs.Arithmetic.{float}
use Rattle.std.specs.Prelude.{if◌then◌else◌}
use Rattle.recording.specs.Recording.{State}
use Rattle.recording.specs.Answer.{Answer}
use Rattle.std.specs.Prelude.{Ok, Err}
use Rattle.model.specs.Model.{order_for}
use Rattle.model.specs.Order.{passes_order}
use Rattle.inpaint.specs.Gap.{by_line, from, window, gap_repair}
use Rattle.inpaint.specs.Auto.{limit, source_passes, scannable}
use Rattle.inpaint.specs.Runs.{Stretch, runs_among, runs_of}

-- ---- Of a gap

-- the order of the model that fills a gap, after so many passes over its window
unfoldable pub fill_order : ℕ → List ℕ → ℕ → ℕ → ℕ
unfolding passes_order float window
fill_order passes samples start len =
    passes_order passes (start - from start len) len (order_for len) (map float (window samples start len))

-- "A gap repair returns it beside m": "Straight-line fills return 0", and so does every refusal
abbrev pub order_beside : ℕ → ℕ → ℕ → List ℕ → Answer → ℕ
order_beside start len passes samples (Ok m) = if by_line len then 0 else fill_order passes samples start len
order_beside start len passes samples (Err why) = 0

-- of the call
unfoldable pub gap_order : ℕ → ℕ → ℕ → ℕ → State → ℕ
unfolding gap_repair fill_order
gap_order start len passes room s = order_beside start len passes s.samples (gap_repair start len passes room s).answer

-- ---- Of a scan, which leaves it place by place in a lent list

-- "At each place of it where the scan repaired a sample by the model it receives the order of that model"; "Every other place of it
-- stays: .. of a run that was refused or became a straight line". This is the list after a run that ended so. "a shorter list is written as
-- far as it goes": nothing is stored behind its end.
abbrev pub noted : Stretch → Answer → ℕ → List ℕ → List ℕ
noted r (Ok m) order orders = if by_line r.len then orders else sets orders r.start (replicate r.len order)
noted r (Err why) order orders = orders

-- run after run, each on what the ones before it left, with so many doubles of workspace
unfoldable pub orders_over : ℕ → List Stretch → State → List ℕ → List ℕ
unfolding gap_repair gap_order
orders_over room [] s orders = orders
orders_over room (r ∷ rs) s orders =
    let e = gap_repair r.start r.len source_passes room s in
    orders_over room rs e.after (noted r e.answer (gap_order r.start r.len source_passes room s) orders)

-- of the runs of a scan, which a refusal "for the whole scan" leaves as it was
unfoldable pub scan_orders : ℕ → Float → ℕ → List Float → State → List ℕ → List ℕ
unfolding scannable limit runs_among orders_over
scan_orders rate ms held work s orders =
    elim (scannable rate ms held s) [
      | Ok m ↦ orders_over (length work) (runs_of s.samples (limit ms rate) held) s orders
      | Err why ↦ orders
    ]
