-- Lanes: what a lane holds, and what is kept where one is given something else.
use Rattle.std.proofs.Common.{◌≡◌, ◌∙◌, ℕ, zero, suc, ◌+◌, ◌-◌, ◌*◌, ◌<◌, ◌≤◌, Bool, List, [], ◌∷◌, length, map, replicate, Option, Some, None, ap, sym, subst, refl, arith, pos, slice_index_or, slice_set, length-take, length-set}
use Rattle.std.specs.List.{All}
use Rattle.std.proofs.lemmas.List.{length-map}
use Rattle.std.proofs.lemmas.List.Elements.{All-set}
use Rattle.std.proofs.lemmas.List.Sums.{sum_by-set}
use Rattle.sg_model.specs.Games.{Game}
use Rattle.sg_model.specs.Limits.{IsGame, program_rows}
use Rattle.sg_bounds.specs.Regions.{IsNode}
use Rattle.sg_tree.specs.declared.fix.Fix.{Fix}
use Rattle.sg_lp.specs.Pooled.{GivesBack, taken_from}
use Rattle.sg_lp.specs.States.{start_of}
use Rattle.sg_pool.specs.Pools.{PoolView}
use Rattle.sg_programs.specs.NodeTests.{ClosesNode, EndsNode, StopsNode, listed_plays}
use Rattle.sg_programs.specs.Plays.{plays_program}
use Rattle.sg_work.specs.Works.{AreSameTests, IsFinding, IsLoaded, IsUnloaded, Load, load_at}
use Rattle.sg_desk.specs.declared.run.Run.{Run}
use Rattle.sg_programs.proofs.NodeEnds.{closed_is_result}
use Rattle.sg_work.specs.declared.work.Ended.{Ended}
use Rattle.sg_work.specs.declared.work.Ended.TheVariants.{Stuck, Worked}
use Rattle.sg_desk.specs.Runs.{IsOutcome, IsRunOf, has_ended, load_of}
use Rattle.sg_desk.specs.Desks.{DeskView, IsDesk, IsLaneOf, rows_out}
use Rattle.sg_desk.proofs.Roomy.{height-within, sum-room}

-- the lane's own load
pub load-is : (runs : List (Option Run)) (lane : ℕ) → 1 ≤ lane → load_at (map load_of runs) lane ≡ load_of (slice_index_or runs (lane - 1) None)
load-is runs zero low = absurd (omega (arith, low))
load-is runs (suc k) low = let e : k ≡ suc k - 1 = omega arith in at runs k ∙ ap (λ i. load_of (slice_index_or runs i None)) e
  where
    at : (xs : List (Option Run)) (i : ℕ) → slice_index_or (map load_of xs) i None ≡ load_of (slice_index_or xs i None)
    at [] i = refl
    at (x ∷ xs) zero = refl
    at (x ∷ xs) (suc i) = at xs i

none-is : (o : Option Run) → load_of o ≡ None → o ≡ None
none-is None e = refl
none-is (Some r) e = absurd (cc)

pub free-lane : (runs : List (Option Run)) (loads : List (Option Load)) (lane : ℕ) → map load_of runs ≡ loads → IsUnloaded loads lane → slice_index_or runs (lane - 1) None ≡ None
free-lane runs loads lane e h = none-is (slice_index_or runs (lane - 1) None) (sym (load-is runs lane h.from_one) ∙ (ap (λ xs. load_at xs lane) e ∙ h.nothing))

pub lane-below : (runs : List (Option Run)) (loads : List (Option Load)) (lane : ℕ) → map load_of runs ≡ loads → 1 ≤ lane → lane ≤ length loads → lane - 1 < length runs
lane-below runs loads lane e low high = omega (arith, low, high, ap length e, length-map runs load_of)

-- a lane that holds a load holds a run
some-is : (o : Option Run) (l : Load) → load_of o ≡ Some l → (r : Run) × ((o ≡ Some r) × (l ≡ record { node = r.fix; moves = r.node.steps; ended = has_ended r.answer }))
some-is None l e = absurd (cc)
some-is (Some r) l e = (r, (refl, cc))

pub held-run : (runs : List (Option Run)) (loads : List (Option Load)) (lane : ℕ) (ended : Bool) → map load_of runs ≡ loads → (h : IsLoaded loads lane ended)
    → (r : Run) × ((slice_index_or runs (lane - 1) None ≡ Some r) × (h.load ≡ record { node = r.fix; moves = r.node.steps; ended = has_ended r.answer }) × (has_ended r.answer ≡ ended))
held-run runs loads lane ended e h =
    let at : load_of (slice_index_or runs (lane - 1) None) ≡ Some h.load = sym (load-is runs lane h.from_one) ∙ (ap (λ xs. load_at xs lane) e ∙ h.held) in
    let s = some-is (slice_index_or runs (lane - 1) None) h.load at in
    (s.0, (s.1.0, s.1.1, ap (λ (l : Load). l.ended) (sym s.1.1) ∙ h.state))

-- what lanes are seen as where one is set
pub loads-set : (runs : List (Option Run)) (i : ℕ) (o : Option Run) → map load_of (slice_set runs i o) ≡ slice_set (map load_of runs) i (load_of o)
loads-set [] i o = refl
loads-set (x ∷ xs) zero o = refl
loads-set (x ∷ xs) (suc i) o = ap (λ ys. load_of x ∷ ys) (loads-set xs i o)

module _ (g : Game) (pivots looks : ℕ) (pool : PoolView) (runs : List (Option Run)) (d : IsDesk g pivots looks pool runs) where
  -- each lane has no more rows than the largest program, and one
  few-rows : IsGame g → All (λ o. rows_out g o ≤ program_rows g + 1) runs
  few-rows h = λ i o lt. of (slice_index_or runs i o) (d.lanes i o lt)
    where
      of : (o : Option Run) → IsLaneOf g pivots looks pool.width o → rows_out g o ≤ program_rows g + 1
      of None is = omega arith
      of (Some r) is = let le = height-within g h r.fix is.node.is_fix in omega (arith, le)

  module _ (h : IsGame g) (i : ℕ) (lt : i < length runs) (free : slice_index_or runs i None ≡ None) (fix : Fix) (node : IsNode g fix) where
    height : ℕ
    height = (plays_program g fix).height

    pub start-wide : (plays_program g fix).height ≤ pool.width
    start-wide = let w = d.wide in omega (arith, w, height-within g h fix node.is_fix)

    nothing-out : rows_out g (slice_index_or runs i None) ≡ 0
    nothing-out = ap (rows_out g) free

    pub start-spare : (plays_program g fix).height + 1 ≤ length pool.free
    start-spare =
        let room = sum-room (rows_out g) (program_rows g + 1) runs i None lt nothing-out (few-rows h) in
        omega (arith, room, d.out, d.rows, height-within g h fix node.is_fix)

    started : Run
    started = record { fix = fix; node = record { family = record { game = g; fix = fix }; tableau = start_of (plays_program g fix).height; width = pool.width; steps = 0; pivots = pivots; looks = looks }; answer = None }

    begun : (r : Run) → r ≡ record { fix = fix; node = record { family = record { game = g; fix = fix }; tableau = start_of (plays_program g fix).height; width = pool.width; steps = 0; pivots = pivots; looks = looks }; answer = None } → IsRunOf g pivots looks pool.width r
    begun r e =
        subst (IsRunOf g pivots looks pool.width) (sym e)
        (record { node = node; family = refl; pivots_are = refl; looks_are = refl; width_is = refl; first = λ j lt. absurd (omega (arith, lt)); ended = tt })

    pub start-kept : (r : Run) (after : PoolView) → r ≡ record { fix = fix; node = record { family = record { game = g; fix = fix }; tableau = start_of (plays_program g fix).height; width = pool.width; steps = 0; pivots = pivots; looks = looks }; answer = None }
        → after ≡ taken_from pool ((plays_program g fix).height + 1) → IsDesk g pivots looks after (slice_set runs i (Some r))
    start-kept r after e t =
        subst (λ p. IsDesk g pivots looks p (slice_set runs i (Some r))) (sym t)
        (let one = sum_by-set (rows_out g) runs i (Some r) None lt in
        let fixed : rows_out g (Some r) ≡ (plays_program g fix).height + 1 = ap (λ (x : Run). (plays_program g x.fix).height + 1) e in
        let left = length-take (length pool.free - ((plays_program g fix).height + 1)) pool.free in
        let spare = start-spare in
        let rows = d.rows in
        let out = d.out in
        let long = length-set runs i (Some r) in
        record {
          unscaled = d.unscaled;
          few = d.few;
          wide = d.wide;
          rows = rows ∙ ap (λ n. n * (program_rows g + 1)) (sym long);
          out = omega (arith, one, fixed, nothing-out, left, spare, out);
          lanes = All-set (IsLaneOf g pivots looks pool.width) runs i (Some r) (begun r e) d.lanes;
        })

  module _ (i : ℕ) (lt : i < length runs) (r : Run) (held : slice_index_or runs i None ≡ Some r) where
    pub run-is : IsRunOf g pivots looks pool.width r
    run-is = subst (IsLaneOf g pivots looks pool.width) held (d.lanes i None lt)

    rows-held : rows_out g (slice_index_or runs i None) ≡ (plays_program g r.fix).height + 1
    rows-held = ap (rows_out g) held

    -- a lane that is cleared gives its rows back
    pub clear-kept : (after : PoolView) → GivesBack pool after ((plays_program g r.fix).height + 1) → IsDesk g pivots looks after (slice_set runs i None)
    clear-kept after back =
        let one = sum_by-set (rows_out g) runs i None None lt in
        let out = d.out in
        let many = back.many in
        let count = back.count in
        let wide = d.wide in
        let width = back.width in
        let long = length-set runs i None in
        record {
          unscaled = d.unscaled;
          few = d.few;
          wide = omega (arith, wide, width);
          rows = count ∙ (d.rows ∙ ap (λ n. n * (program_rows g + 1)) (sym long));
          out = omega (arith, one, rows-held, out, many, count);
          lanes = All-set (IsLaneOf g pivots looks after.width) runs i None tt (subst (λ w. All (IsLaneOf g pivots looks w) runs) (sym width) d.lanes);
        }

    pub out-room : length pool.free + ((plays_program g r.fix).height + 1) ≤ pool.count
    out-room = let one = sum_by-set (rows_out g) runs i None None lt in let out = d.out in omega (arith, one, rows-held, out)

    -- a lane whose run goes on has the rows that it had
    pub step-kept : (next : Run) → IsRunOf g pivots looks pool.width next → next.fix ≡ r.fix → IsDesk g pivots looks pool (slice_set runs i (Some next))
    step-kept next is same =
        let one = sum_by-set (rows_out g) runs i (Some next) None lt in
        let alike : rows_out g (Some next) ≡ (plays_program g r.fix).height + 1 = ap (λ f. (plays_program g f).height + 1) same in
        let out = d.out in
        let long = length-set runs i (Some next) in
        record {
          unscaled = d.unscaled;
          few = d.few;
          wide = d.wide;
          rows = d.rows ∙ ap (λ n. n * (program_rows g + 1)) (sym long);
          out = omega (arith, one, alike, rows-held, out);
          lanes = All-set (IsLaneOf g pivots looks pool.width) runs i (Some next) is d.lanes;
        }

pub some-one : (r : Run) → ◌≡◌ {A = Option Run} None (Some r) → ⊥
some-one r e = cc

pub same-run : (a b : Run) → ◌≡◌ {A = Option Run} (Some a) (Some b) → a ≡ b
same-run a b e = cc

-- the tests of a desk are those of what it is seen as
pub same-tests : (v w : DeskView) → v ≡ w → AreSameTests (EndsNode v.game (listed_plays v.game v.pivots v.looks)) (ClosesNode v.game (listed_plays v.game v.pivots v.looks)) (StopsNode v.game (listed_plays v.game v.pivots v.looks))
    (EndsNode w.game (listed_plays w.game w.pivots w.looks)) (ClosesNode w.game (listed_plays w.game w.pivots w.looks)) (StopsNode w.game (listed_plays w.game w.pivots w.looks))
same-tests v w e =
    subst (λ (u : DeskView). AreSameTests (EndsNode v.game (listed_plays v.game v.pivots v.looks)) (ClosesNode v.game (listed_plays v.game v.pivots v.looks)) (StopsNode v.game (listed_plays v.game v.pivots v.looks))
    (EndsNode u.game (listed_plays u.game u.pivots u.looks)) (ClosesNode u.game (listed_plays u.game u.pivots u.looks)) (StopsNode u.game (listed_plays u.game u.pivots u.looks))) e
    (record { end_alike = λ node moves. (λ x. x, λ x. x); close_alike = λ node fact point. (λ x. x, λ x. x); stop_alike = λ node why. (λ x. x, λ x. x) })

loads-none : (n : ℕ) → ◌≡◌ {A = List (Option Load)} (map load_of (replicate n None)) (replicate n None)
loads-none zero = refl
loads-none (suc n) = ap (λ (ys : List (Option Load)). None ∷ ys) (loads-none n)

-- a desk whose lanes hold nothing
pub new-view : (g : Game) (pivots looks n : ℕ) (runs : List (Option Run)) → runs ≡ replicate n None
    → ◌≡◌ {A = DeskView} (record { game = g; loads = map load_of runs; pivots = pivots; looks = looks }) (record { game = g; loads = replicate n None; pivots = pivots; looks = looks })
new-view g pivots looks n runs e =
    let at : List (Option Load) → DeskView = λ xs. record { game = g; loads = xs; pivots = pivots; looks = looks } in
    ap at (ap (map load_of) e ∙ loads-none n)

-- what is told of a run that has ended is what the work on nodes tells
pub finding : (g : Game) → IsGame g → g.scale ≡ pos 0 → (pivots looks width : ℕ) (r : Run) → IsRunOf g pivots looks width r → (loads : List (Option Load)) (lane : ℕ)
    → load_at loads lane ≡ Some (record { node = r.fix; moves = r.node.steps; ended = has_ended r.answer }) → (e : Ended) → IsOutcome g (listed_plays g pivots looks) r.fix e
    → IsFinding g (ClosesNode g (listed_plays g pivots looks)) (StopsNode g (listed_plays g pivots looks)) loads lane e
finding g h unscaled pivots looks width r is loads lane at (Worked fact point) out =
    (record { node = r.fix; moves = r.node.steps; ended = has_ended r.answer }, at, out, closed_is_result g h unscaled r.fix is.node (listed_plays g pivots looks) fact point out)
finding g h unscaled pivots looks width r is loads lane at (Stuck why) out = (record { node = r.fix; moves = r.node.steps; ended = has_ended r.answer }, at, out)
