-- The tickets of the incumbent are those of a report's text: in order, in their ranges, and few.
use Rattle.std.proofs.Common.{◌≡◌, ℕ, suc, ◌≤◌, ◌<◌, ◌^◌, Bool, true, false, cond, List, [], ◌∷◌, length, filter, ℤ, pos, ◌≤ℤ◌, ap, refl, arith, inl, inr, Option, Some, None, slice_index_or}
use Rattle.std.specs.List.{All, AllByRecursion, range_with_len}
use Rattle.std.specs.Prelude.{MatchBool, IfSome}
use Rattle.std.proofs.lemmas.Int.{ints}
use Rattle.std.proofs.lemmas.List.{length-map}
use Rattle.std.proofs.lemmas.List.FromFn.{length-range_with_len}
use Rattle.std.proofs.lemmas.List.Elements.{All-head, All-tail, All-weaker, recursion_from_All}
use Rattle.sg_num.specs.Exact.{Fits}
use Rattle.sg_model.specs.declared.ticket.Ticket.{Ticket}
use Rattle.sg_model.specs.Games.{Game, is_matrix, resource_count}
use Rattle.sg_model.specs.Limits.{IsDefended, IsGame, is_scaled}
use Rattle.sg_model.specs.Plays.{IsLegal, IsLegalJoint, IsRow}
use Rattle.sg_model.specs.Commitments.{IsCommitment, weight_total}
use Rattle.sg_model.proofs.Covers.{weight_total-nonneg}
use Rattle.sg_model.proofs.Promises.{game_cases}
use Rattle.sg_model.proofs.Sizes.{short_lists, small_counts}
use Rattle.sg_commit.specs.Committed.{Committed, IsCommitted, is_rising}
use Rattle.sg_commit.specs.Parts.{AreMultiple}
use Rattle.sg_split.proofs.Few.{few_plays}
use Rattle.sg_tree.specs.Claims.{HaveOneLength, is_claim}
use Rattle.sg_tree.proofs.Committing.{claim_of}
use Rattle.sg_cert.specs.Ranges.{IsTicket}
use Rattle.sg_tree.specs.declared.fix.Fix.{Fix}
use Rattle.sg_tree.specs.declared.worked.Worked.{Worked}
use Rattle.sg_bounds.specs.Regions.{IsNode}
use Rattle.sg_bounds.specs.Sizes.{value_sums}
use Rattle.sg_search.specs.Searches.{Task, Search}
use Rattle.sg_search.specs.Bounding.{incumbent}
use Rattle.sg_search.specs.Results.{IsFirst, IsPointOf, IsResult}
use Rattle.sg_search.proofs.Reported.{incumbent-has}
use Rattle.sg_lp.specs.States.{Tableau}
use Rattle.sg_programs.specs.NodeTests.{ClosesNode, Method}
use Rattle.sg_programs.specs.Plays.{plays_program}
use Rattle.sg_programs.specs.Points.{is_point_row, point_rows, point_ticket, point_tickets}
use Rattle.sg_programs.specs.Shown.{IsPointAt}
use Rattle.sg_programs.proofs.Heights.{height-few}
use Rattle.sg_programs.proofs.NodeEnds.{closed_is_result}
use Rattle.sg_answer_laws.proofs.Fitting.{fits-below}

-- ---- plays are short

resources-few : (g : Game) → IsGame g → resource_count g ≤ 200
resources-few g h = elim (game_cases g h) [
  | inl s ↦ defended g.patrols refl s.game.defended
  | inr m ↦ (let e : resource_count g ≡ length g.resources = rw m.game.no_patrols refl in omega (arith, e, ap length m.game.no_resources))
]
  where
    either : (b : Bool) (n : ℕ) → n ≤ cond b 200 32 → n ≤ 200
    either true n h = h
    either false n h = omega (arith, h)

    defended : (o : Option ℕ) → g.patrols ≡ o → IsDefended g o → resource_count g ≤ 200
    defended (Some n) e d = let is : resource_count g ≡ n = rw e refl in omega (arith, is, either (is_scaled g) n d.few)
    defended None e d = let is : resource_count g ≡ length g.resources = rw e refl in omega (arith, is, d.resources.few)

-- all legal plays are alike in length
legal-length : (g : Game) (play : List ℕ) → IsLegal g play → length play ≡ cond (is_matrix g) 1 (resource_count g)
legal-length g play = elim (is_matrix g) as (λ (b : Bool). MatchBool b (IsRow g play) (IsLegalJoint g play) → length play ≡ cond b 1 (resource_count g)) [ true ↦ (λ r. r.one) | false ↦ (λ j. j.one_each) ]

length-few : (g : Game) → IsGame g → cond (is_matrix g) 1 (resource_count g) ≤ 200
length-few g h = either (is_matrix g) (resources-few g h)
  where
    either : (b : Bool) → resource_count g ≤ 200 → cond b 1 (resource_count g) ≤ 200
    either true few = omega arith
    either false few = few

-- ---- the tickets of a commitment

one-length : (g : Game) (k : List Ticket) → All (λ (x : Ticket). IsLegal g x.play.code) k → HaveOneLength k
one-length g k legal = (cond (is_matrix g) 1 (resource_count g), All-weaker (λ (x : Ticket). IsLegal g x.play.code) (λ (x : Ticket). length x.play.code ≡ cond (is_matrix g) 1 (resource_count g)) (λ x. legal-length g x.play.code) k legal)

ticket-ranged : (g : Game) → IsGame g → (x : Ticket) → IsLegal g x.play.code → Fits x.weight → IsTicket x
ticket-ranged g h x legal fit =
    let small = (small_counts g (short_lists g h)).plays x.play.code legal in
    let long = legal-length g x.play.code legal in
    let few = length-few g h in
    record {
      weight = fit;
      count = omega (arith, long, few);
      choices = recursion_from_All (λ c. c ≤ 65535) x.play.code (All-weaker (λ c. c < 2 ^ 16) (λ c. c ≤ 65535) (λ c lt. omega (arith, lt)) x.play.code small.1);
    }

abbrev IsPositive : Ticket → Type 0
IsPositive x = pos 1 ≤ℤ x.weight

-- tickets of legal plays whose total fits
pub tickets-ranged : (g : Game) → IsGame g → (top : ℤ) → Fits top → (k : List Ticket) → All (λ (x : Ticket). IsLegal g x.play.code) k → All IsPositive k → weight_total k ≤ℤ top → AllByRecursion IsTicket k
tickets-ranged g h top fit [] legal positive le = tt
tickets-ranged g h top fit (x ∷ xs) legal positive le =
    let here = All-head IsPositive x xs positive in
    let rest = All-tail IsPositive x xs positive in
    let later = weight_total-nonneg xs rest in (
      ticket-ranged g h x (All-head (λ (t : Ticket). IsLegal g t.play.code) x xs legal) (fits-below x.weight top (omega (arith, ints, here)) (omega (arith, ints, le, later)) fit),
      tickets-ranged g h top fit xs (All-tail (λ (t : Ticket). IsLegal g t.play.code) x xs legal) rest (omega (arith, ints, le, here)),
    )

-- those of a commitment of a game are a claim
pub claim-ranged : (g : Game) (c : Committed) → IsCommitted c → IsCommitment g c.tickets → is_claim c.tickets ≡ true
claim-ranged g c is k = claim_of c is (one-length g c.tickets k.legal)

-- one ticket is too
rising-one : (k : List Ticket) → length k ≡ 1 → is_rising k ≡ true
rising-one [] one = refl
rising-one (x ∷ []) one = refl
rising-one (x ∷ y ∷ ys) one = absurd (omega (arith, one))

claim-first : (g : Game) (k : List Ticket) → IsFirst g k → length k ≡ 1 → is_claim k ≡ true
claim-first g k first one =
    let is_k = first.commitment in
    claim-ranged g (record { tickets = k; total = weight_total k }) (record { some = is_k.some; positive = is_k.positive; rising = rising-one k one; lowest = first.lowest; sum = refl }) is_k

-- ---- points

-- a node's point has no more tickets than its program has rows
filter-few : (p : ℕ → Bool) (xs : List ℕ) → length (filter p xs) ≤ length xs
filter-few p [] = omega arith
filter-few p (x ∷ xs) = by (p x) (filter-few p xs)
  where
    by : (b : Bool) → length (filter p xs) ≤ length xs → length (cond b (x ∷ filter p xs) (filter p xs)) ≤ suc (length xs)
    by true h = omega (arith, h)
    by false h = omega (arith, h)

point-few : (g : Game) (fix : Fix) (t : Tableau) (k : Committed) → IsCommitment g k.tickets → AreMultiple (point_tickets (plays_program g fix) t) k.tickets → length k.tickets ≤ (plays_program g fix).height
point-few g fix t k is_k multiple =
    let p = plays_program g fix in
    let few = few_plays (point_tickets p t) k.tickets is_k.positive is_k.distinct multiple in
    let all = length-map (point_rows p t) (point_ticket p t) in
    let rows = filter-few (is_point_row t) (range_with_len 0 p.height) in
    omega (arith, few, all, rows, length-range_with_len 0 p.height)

-- ---- the incumbent

-- what a report may say of its tickets
pub record IsTold (g : Game) (k : List Ticket) : Type 0 where
  pub first : IsFirst g k
  pub claim : is_claim k ≡ true
  pub few : length k ≤ 1536

point-told : (g : Game) → IsGame g → g.scale ≡ pos 0 → (m : Method) (w : Worked) → IsNode g w.fix → ClosesNode g m w.fix w.fact w.point → IsResult g w → IfSome w.point (λ k. IsTold g k.tickets)
point-told g game unscaled m w node c result = by w.point c.point_is result.point result.narrow.value
  where
    by : (o : Option Committed) → IsPointAt g w.fix c.state o → IsPointOf g w.fix w.fact o → IfSome o (λ k. All Fits (value_sums g k.tickets)) → IfSome o (λ k. IsTold g k.tickets)
    by None at of fit = tt
    by (Some k) at of fit =
        let is : IsCommitted k = of.1 in
        let is_k : IsCommitment g k.tickets = of.2.commitment in
        let few = point-few g w.fix c.state k is_k at.1.1 in
        let height = height-few g game unscaled w.fix node.is_fix in
        record { first = record { commitment = is_k; lowest = is.lowest; narrow = fit }; claim = claim-ranged g k is is_k; few = omega (arith, few, height) }

pub incumbent-told : (p : Task) (s : Search) (m : Method) → IsGame p.game → p.game.scale ≡ pos 0 → IsFirst p.game p.first → length p.first ≡ 1
    → All (λ (w : Worked). IsNode p.game w.fix) s.worked → All (λ (w : Worked). ClosesNode p.game m w.fix w.fact w.point) s.worked → IsTold p.game (incumbent p s)
incumbent-told p s m game unscaled first one nodes closed =
    let g = p.game in
    incumbent-has (IsTold g) g s.worked p.first (record { first = first; claim = claim-first g p.first first one; few = omega (arith, one) })
    (λ i w lt.
    let x : Worked = slice_index_or s.worked i w in
    let c = closed i w lt in
    let node = nodes i w lt in
    point-told g game unscaled m x node c (closed_is_result g game unscaled x.fix node m x.fact x.point c))
