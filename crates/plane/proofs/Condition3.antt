-- Condition 3 for each tile while it is open, through any calls of both rooms. Assumes nothing.
use mathlib.Core.Path.{◌≡◌, refl, sym, ap, ap₂, subst, ◌∙◌}
use mathlib.Core.Bool.{true, false, not, ◌&&◌}
use mathlib.Core.Logic.{⊎_elim}
use mathlib.Core.List.{List, [], ◌∷◌}
use Prim.Native.Nat.{ℕ, ◌*◌, ◌≤◌}
use native.Mathlib.Omega.{arith}
use borrow.Author.Tests.{not-true, eqb-true, le-ltb}
use lib.Dec.{eqb}
use lib.IntN.{ℤ}
use lib.ListN.{length}
use Rattle.laws.proofs.Bool.{both, decided}
use Rattle.answer.specs.Answer.{Answer, answers, lowest}
use Rattle.block.specs.Call.{refusals}
use Rattle.tickets.specs.declared.Batch.{Batch}
use Rattle.tickets.specs.Open.{new_ticket}
use Rattle.tickets.specs.Open as block
use Rattle.tickets.specs.Run.{State, state_at, run}
use Rattle.tickets.specs.Condition3.{settled}
use Rattle.tickets.proofs.Condition3.{condition3}
use Rattle.tickets.proofs.Runs.{onto, run_none, run_on}
use Rattle.plane.specs.Places.{tile_of}
use Rattle.plane.specs.Plane.{tile_at, is_open, area_of, new_tile, with_tile, made, plane_after, first_free, open_answer, opening}
use Rattle.plane.specs.Calls.{Call, opens, closes, batches, Frame, frame_at, turn, frame_after}
use Rattle.plane.specs.Condition3.{names, tile_batches, closes_it, stays_open, tile_state, add_turn, tile_run, TileCondition3}
use Rattle.plane.specs.declared.Plane.{Plane}
use Rattle.plane.specs.declared.Site.{Site}
use Rattle.plane.specs.declared.Tile.{Tile}
use Rattle.plane.proofs.Places.{length_tile}
use Rattle.plane.proofs.Known.{OpenKnown, open_known}
use Rattle.plane.proofs.Fine.{put_same, open_fine}
use Rattle.plane.proofs.Turns.{Good, made_good, fine_turn, good_all}
use Rattle.plane.proofs.Mine.{Mine, state_same, same_state, same_mine, others}
use Rattle.plane.proofs.Own.{own_mine, own_turn}

-- ---- through a list of calls

module _ (room n : ℕ) (residuals : List ℤ) where
  -- what holds of every frame in which the tile is open, of a list
  abbrev Through : List Call → Type 0
  Through cs = (s : Frame) (scratch : List ℤ) → Mine s room n
      → tile_run room n residuals scratch s cs ≡ run residuals (tile_state s scratch n) (tile_batches room n cs)

  -- another call first
  other_first : (c : Call) (cs : List Call) → Through cs → names room n c ≡ false → closes_it room n c ≡ false → Through (c ∷ cs)
  unfolding tile_run tile_batches
  other_first c cs ih e f s scratch m =
      let k = others m c e f in
      rw e
      (ih (turn s c).frame scratch (same_mine m (fine_turn s c m.fine) k)
      ∙ ap (λ (x : State). run residuals x (tile_batches room n cs)) (same_state s (turn s c).frame scratch n k))

  -- a batch of the tile first
  own_first : (b : Batch) (cs : List Call) → Through cs → (s : Frame) (scratch : List ℤ) → Mine s room n →
      let own = turn s (batches room n b residuals scratch) in
      add_turn own n (tile_run room n residuals own.scratch own.frame cs) ≡ run residuals (tile_state s scratch n) (b ∷ tile_batches room n cs)
  own_first b cs ih s scratch m =
      let k = own_turn m b residuals scratch in
      let c = batches room n b residuals scratch in
      let u = turn s c in
      let bs = tile_batches room n cs in
      ap (add_turn u n) (ih u.frame u.scratch (own_mine m (fine_turn s c m.fine) k.stays))
      ∙ ap₂ (λ (a : Answer) (x : State). onto (record { answer = a; state = x }) (run residuals x bs)) k.answer k.state
      ∙ sym (run_on residuals (tile_state s scratch n) b bs)

  batch_first : (r i : ℕ) (b : Batch) (res scr : List ℤ) (cs : List Call) → Through cs → Through (batches r i b res scr ∷ cs)
  unfolding tile_run tile_batches
  batch_first r i b res scr cs ih s scratch m =
      ⊎_elim
      (λ e.
      let k = both (eqb r room) (eqb i n) e in
      rw e (rw (eqb-true r room k.0, eqb-true i n k.1) (own_first b cs ih s scratch m)))
      (λ e. other_first (batches r i b res scr) cs ih e refl s scratch m)
      (decided (eqb r room && eqb i n))

  through : (cs : List Call) → stays_open room n cs ≡ true → Through cs
  unfolding tile_run tile_batches stays_open
  through [] e s scratch m = sym (run_none residuals (tile_state s scratch n))
  through (opens site res scr ∷ cs) e s scratch m = other_first (opens site res scr) cs (through cs e) refl refl s scratch m
  through (closes r i ∷ cs) e s scratch m =
      let k = both (not (eqb r room && eqb i n)) (stays_open room n cs) e in
      other_first (closes r i) cs (through cs k.1) refl (not-true _ k.0) s scratch m
  through (batches r i b res scr ∷ cs) e s scratch m = batch_first r i b res scr cs (through cs e) s scratch m

-- ---- from an accepted opening

-- the tests of a tile's opening are those of its block's
block_opens : {p : Plane} (site : Site) {residuals : List ℤ} {ls lo m : ℕ} (lt : ℕ) → OpenKnown p (new_tile site) residuals ls lo m
    → site.w * site.h ≤ lt → block.open_answer site.w site.h site.column_kind site.row_kind residuals ls lt ≡ answers 0
unfolding block.open_answer refusals lowest
block_opens site lt k l =
    rw (k.wide, k.high, k.kinds, k.residuals_long, k.scratch_long, le-ltb lt (site.w * site.h) l, k.in_limit_lem)

module _ {width height : ℕ} (s : Frame) (g : Good width height s.plane) (site : Site) (n : ℕ) (residuals scratch : List ℤ)
    (accepted : open_answer s.plane (new_tile site) residuals (length scratch) (length s.output) ≡ answers n) where
  abbrev p : Plane
  p = s.plane

  abbrev t : Tile
  t = new_tile site

  abbrev new : Frame
  new = frame_at (with_tile p (first_free p) t) s.output

  abbrev tile : List ℤ
  tile = tile_of width (area_of t) s.output

  known : OpenKnown p t residuals (length scratch) (length s.output) n
  known = open_known p t residuals (length scratch) (length s.output) n (sym accepted)

  same_tile : tile_at new.plane (first_free p) ≡ t
  same_tile = put_same p (first_free p) t g.fine.many known.small

  mine : Mine new site.room (first_free p)
  mine =
      record {
        fine = open_fine (first_free p) t g.fine known.small known.valid;
        small = known.small;
        is_open_lem = ap is_open same_tile;
        room_is = ap (λ (x : Tile). x.room) same_tile;
        long = known.output_long;
      }

  state_is : tile_state new scratch (first_free p) ≡ state_at (new_ticket site.w site.h site.column_kind site.row_kind) scratch tile
  state_is =
      state_same (ap (λ (x : Tile). x.ticket) same_tile) refl
      (ap₂ (λ (v : ℕ) (x : Tile). tile_of v (area_of x) s.output) g.wide same_tile)

  from_open : (cs : List Call) → stays_open site.room n cs ≡ true
      → tile_run site.room n residuals scratch
      (frame_at (plane_after (open_answer p t residuals (length scratch) (length s.output)) (with_tile p (first_free p) t) p) s.output) cs
      ≡ settled site.w site.h site.column_kind site.row_kind residuals scratch tile (tile_batches site.room n cs)
  from_open cs e =
      ap (λ (a : Answer). tile_run site.room n residuals scratch (frame_at (plane_after a (with_tile p (first_free p) t) p) s.output) cs) accepted
      ∙ through site.room n residuals cs e new scratch (subst (Mine new site.room) (sym known.number) mine)
      ∙ ap (λ (x : State). run residuals x (tile_batches site.room n cs)) (ap (tile_state new scratch) known.number ∙ state_is)
      ∙ condition3 site.w site.h site.column_kind site.row_kind residuals scratch tile
      (block_opens site (length tile) known (omega (arith, length_tile width (area_of t) s.output))) (tile_batches site.room n cs)

pub tile_condition3 : TileCondition3
unfolding turn opening
tile_condition3 width height output sides before site residuals scratch n accepted cs stays =
    let first = frame_at (made width height) output in
    from_open (frame_after first before) (good_all before first (made_good width height sides)) site n residuals scratch accepted cs stays
