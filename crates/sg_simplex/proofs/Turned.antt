-- What a turn comes to.
use Rattle.std.proofs.Common.{◌≡◌, ℕ, ◌+◌, ◌<◌, ◌≤◌, refl, arith, sym, ◌∙◌, subst, add-one, None, ap, inl, inr}
use Rattle.std.specs.Prelude.{ℤ, List}
use Rattle.sg_linear.proofs.MoveLaws.{leaves-unique}
use Rattle.sg_rows.specs.Rows.{place}
use Rattle.sg_lp.specs.Programs.{IsBounded, IsWithinLimits, Program, enough_pivots, member_entry}
use Rattle.sg_lp.specs.Pricing.{Answer, AnswerMeans, clean, found, spent, told_of, wide}
use Rattle.sg_lp.specs.States.{HaveSameBasis, IsTableau, StandsAbove, StateView, Tableau, row_at, start_of}
use Rattle.sg_lp.specs.Moves.{AreAbove, Exchanges, IsLeaving, IsNext, Runs, first_shown, gap_of, move_steps, products_of}
use Rattle.sg_lp.specs.declared.column.Enter.{Enter}
use Rattle.sg_lp.specs.declared.family.Priced.TheVariants as told
use Rattle.sg_lp.proofs.Assembled.{next-made}
use Rattle.sg_lp.proofs.Nexts.{entering-one}
use Rattle.sg_lp.proofs.Runs.{never_twice, next-rises, short-run}
use Rattle.sg_lp.proofs.Starts.{start_state}
use Rattle.sg_simplex.specs.declared.turn.Turn.{Turn}
use Rattle.sg_simplex.specs.declared.turn.Turn.TheVariants as turn
use Rattle.sg_simplex.specs.Nodes.{IsKept, IsProgramNode, NodeView}
use Rattle.sg_simplex.specs.Trying.{IsMisfit, MayExchange}
use Rattle.sg_simplex.specs.declared.trying.Misfit.{Misfit}
use Rattle.sg_simplex.specs.Choices.{EndsWith}
use Rattle.sg_simplex.specs.Turns.{EntersBy, HasCause, HasMoved, IsAtEnd, Pricer, Turns}
use Rattle.sg_simplex.proofs.Causes.{cause_one, entering_of}

-- ---- pricing
-- an answer as it is told
pub clean_told : (a : Answer) (n : ℕ) → told_of a ≡ told.Clean n → a ≡ clean n
clean_told (found c) n e = cc
clean_told (clean k) n e = let same : k ≡ n = cc in subst (λ (z : ℕ). clean k ≡ clean z) same refl
clean_told spent n e = cc
clean_told (wide name w) n e = cc

-- where pricing finds nothing the state is final
pub done_by : (p : Program) (price : Pricer) (t : Tableau) (looks need n : ℕ) → AreAbove t.y → told.Clean n ≡ told_of (price t.y t.rho looks) → AnswerMeans p t.y t.rho need looks (price t.y t.rho looks) → IsAtEnd p price t looks
done_by p price t looks need n above is says =
    let answer = clean_told (price t.y t.rho looks) n (sym is) in
    let none = subst (AnswerMeans p t.y t.rho need looks) answer says in
    record { final = record { above = above; none = none.0 }; count = n; priced = record { above = above; answers = answer } }

-- ---- a move
module _ (p : Program) (price : Pricer) (t u : Tableau) (s : Enter) (q : List ℤ) (r : ℕ) (gap : ℤ) (steps pivots looks : ℕ) (st : IsTableau p t) (e : EntersBy p price t looks s) (m : MayExchange p t s q r gap) (x : Exchanges t s r q gap u) where
  by_products : Exchanges t s r (products_of p t s) (gap_of p t s) u
  by_products = subst (λ (g : ℤ). Exchanges t s r (products_of p t s) g u) m.gap_is (subst (λ (z : List ℤ). Exchanges t s r z gap u) m.products x)

  next : IsNext p t u
  next = next-made p t s r u st (entering_of p price t looks s e) m.leaves by_products

  same_member : next.entering ≡ s
  same_member = entering-one p t st.shaped.y_long next.entering s next.enters (entering_of p price t looks s e)

  same_row : next.leaving ≡ r
  same_row = leaves-unique p.height (member_entry p) (λ i. place (row_at t i)) s next.leaving r (subst (λ (z : Enter). IsLeaving p t z next.leaving) same_member next.moves.leaves) m.leaves

  pub has_moved : steps < pivots → HasMoved p price t u steps pivots looks
  has_moved room = record {
    next = next;
    enters = subst (EntersBy p price t looks) (sym same_member) e;
    room = room;
    fit = subst (λ (k : ℕ). first_shown (move_steps p t next.entering k) ≡ None) (sym same_row) (subst (λ (z : Enter). first_shown (move_steps p t z r) ≡ None) (sym same_member) m.fit);
  }

  pub next_node : Runs p steps t → IsProgramNode p t steps → IsProgramNode p u (steps + 1)
  next_node run node = record { sized = node.sized; bounded = node.bounded; run = rw add-one (t, run, next); state = next.state }

-- ---- causes
-- what an answer comes of
caused_of : {F : Type 0} (program : F → Program) (price : F → Pricer) (v u : NodeView F) (a : Turn) → Turns program price v u a → HasCause (program v.family) (price v.family) v.tableau v.steps v.pivots v.looks a
caused_of {F} program price v u turn.Moved h = (u.tableau, h.0)
caused_of {F} program price v u turn.Done h = h.0
caused_of {F} program price v u turn.PivotsSpent h = h.0
caused_of {F} program price v u turn.LooksSpent h = h.0
caused_of {F} program price v u (turn.Wide name w) h = h.0

stays_of : {F : Type 0} (program : F → Program) (price : F → Pricer) (v u : NodeView F) (a : Turn) → Turns program price v u a → (a ≡ turn.Moved → ⊥) → u ≡ v
stays_of {F} program price v u turn.Moved h ne = absurd (ne refl)
stays_of {F} program price v u turn.Done h ne = h.1
stays_of {F} program price v u turn.PivotsSpent h ne = h.1
stays_of {F} program price v u turn.LooksSpent h ne = h.1
stays_of {F} program price v u (turn.Wide name w) h ne = h.1

-- where pricing ends a turn
pub turned_end : {F : Type 0} (program : F → Program) (price : F → Pricer) (v : NodeView F) (a : Turn) → EndsWith (program v.family) (price v.family) v.tableau v.looks a → Turns program price v v a
turned_end {F} program price v turn.Moved h = absurd h
turned_end {F} program price v turn.Done h = (h, refl)
turned_end {F} program price v turn.PivotsSpent h = absurd h
turned_end {F} program price v turn.LooksSpent h = (h, refl)
turned_end {F} program price v (turn.Wide name w) h = (inl h, refl)

-- ---- of nodes
module _ {F : Type 0} (program : F → Program) (price : F → Pricer) (v u : NodeView F) (node : IsProgramNode (program v.family) v.tableau v.steps) where
  pub node_of : (a : Turn) → Turns program price v u a → IsProgramNode (program u.family) u.tableau u.steps
  node_of turn.Moved h = subst (λ (x : NodeView F). IsProgramNode (program x.family) x.tableau x.steps) (sym h.1)
      (record { sized = node.sized; bounded = node.bounded; run = rw add-one (v.tableau, node.run, h.0.next); state = h.0.next.state })
  node_of turn.Done h = subst (λ (x : NodeView F). IsProgramNode (program x.family) x.tableau x.steps) (sym h.1) node
  node_of turn.PivotsSpent h = subst (λ (x : NodeView F). IsProgramNode (program x.family) x.tableau x.steps) (sym h.1) node
  node_of turn.LooksSpent h = subst (λ (x : NodeView F). IsProgramNode (program x.family) x.tableau x.steps) (sym h.1) node
  node_of (turn.Wide name w) h = subst (λ (x : NodeView F). IsProgramNode (program x.family) x.tableau x.steps) (sym h.1) node

  pub rises_of : (a : Turn) → Turns program price v u a → a ≡ turn.Moved → StandsAbove (program v.family) u.tableau v.tableau
  rises_of a h e = let m = subst (Turns program price v u) e h in next-rises (program v.family) v.tableau u.tableau node.state m.0.next

  pub fresh_of : (a : Turn) → Turns program price v u a → a ≡ turn.Moved → (k : ℕ) (t : Tableau) → k ≤ v.steps → Runs (program v.family) k t → ¬ (HaveSameBasis (program v.family) t u.tableau)
  fresh_of a h e k t l run =
      let m = subst (Turns program price v u) e h in
      never_twice (program v.family) node.sized k (v.steps + 1) t u.tableau run (rw add-one (v.tableau, node.run, m.0.next)) (omega arith)

  pub few_of : (a : Turn) → Turns program price v u a → a ≡ turn.PivotsSpent → v.pivots < enough_pivots (program v.family)
  few_of a h e =
      let m = subst (Turns program price v u) e h in
      let short = short-run (program v.family) node.sized v.steps v.tableau node.run in
      let all = m.0.spent_all in
      omega arith

  -- after any answer but a move a later turn answers the same
  pub again_of : (a : Turn) → Turns program price v u a → ¬ (a ≡ turn.Moved) → (w : NodeView F) (b : Turn) → Turns program price u w b → b ≡ a
  again_of a h ne w b k =
      let there = subst (λ (x : NodeView F). Turns program price x w b) (stays_of program price v u a h ne) k in
      cause_one (program v.family) (price v.family) v.tableau v.steps v.pivots v.looks b a node.state (caused_of program price v w b there) (caused_of program price v u a h)

  -- but for the state and the number of moves all stays
  pub lasting_of : (a : Turn) → Turns program price v u a → u ≡ record v { tableau = u.tableau; steps = u.steps }
  lasting_of turn.Moved h = h.1 ∙ ap (λ (k : ℕ). record v { tableau = u.tableau; steps = k }) (sym (ap (λ (x : NodeView F). x.steps) h.1))
  lasting_of turn.Done h = subst (λ (x : NodeView F). x ≡ record v { tableau = x.tableau; steps = x.steps }) (sym h.1) refl
  lasting_of turn.PivotsSpent h = subst (λ (x : NodeView F). x ≡ record v { tableau = x.tableau; steps = x.steps }) (sym h.1) refl
  lasting_of turn.LooksSpent h = subst (λ (x : NodeView F). x ≡ record v { tableau = x.tableau; steps = x.steps }) (sym h.1) refl
  lasting_of (turn.Wide name w) h = subst (λ (x : NodeView F). x ≡ record v { tableau = x.tableau; steps = x.steps }) (sym h.1) refl

-- ---- as a node is seen
module _ {F : Type 0} (program : F → Program) (price : F → Pricer) (v : NodeView F) (family : F) (t : Tableau) (width steps pivots looks : ℕ)
    (is : ◌≡◌ {A = NodeView F} (record { family = family; tableau = t; width = width; steps = steps; pivots = pivots; looks = looks }) v) where
  pub node_by : IsProgramNode (program family) t steps → IsProgramNode (program v.family) v.tableau v.steps
  node_by node = subst (λ (x : NodeView F). IsProgramNode (program x.family) x.tableau x.steps) is node

  pub enters_by : (s : Enter) → EntersBy (program v.family) (price v.family) v.tableau v.looks s → EntersBy (program family) (price family) t looks s
  enters_by s h = subst (λ (x : NodeView F). EntersBy (program x.family) (price x.family) x.tableau x.looks s) (sym is) h

  pub turned_moved : (u : Tableau) (across : ℕ) → HasMoved (program family) (price family) t u steps pivots looks → across ≡ width
      → Turns program price v (record { family = family; tableau = u; width = across; steps = steps + 1; pivots = pivots; looks = looks }) turn.Moved
  turned_moved u across h e = subst (λ (x : NodeView F). Turns program price x (record { family = family; tableau = u; width = across; steps = steps + 1; pivots = pivots; looks = looks }) turn.Moved) is
      (h, ap (λ (w : ℕ). record { family = family; tableau = u; width = w; steps = steps + 1; pivots = pivots; looks = looks }) e)

  pub turned_wide : (s : Enter) (m : Misfit) → EntersBy (program family) (price family) t looks s → IsMisfit (program family) t s m → steps < pivots
      → Turns program price v (record { family = family; tableau = t; width = width; steps = steps; pivots = pivots; looks = looks }) (turn.Wide m.name m.wide)
  turned_wide s m enters h room =
      subst (λ (x : NodeView F). Turns program price x (record { family = family; tableau = t; width = width; steps = steps; pivots = pivots; looks = looks }) (turn.Wide m.name m.wide)) is
      (inr (record { member = s; enters = enters; row = h.row; leaves = h.leaves; room = room; shown = h.shown }), refl)

-- a node at the slacks
pub kept_start : (p : Program) (h : ℕ) (s : StateView) (w entries products : ℕ) → h ≡ p.height → s ≡ record { tableau = start_of h; width = w } → IsWithinLimits p → IsBounded p → entries ≡ h → products ≡ h → IsKept p s.tableau 0 entries products
kept_start p h s w entries products eh es sized bounded ee eq =
    let is : s.tableau ≡ start_of p.height = ap (λ (x : StateView). x.tableau) es ∙ ap start_of eh in
    record {
      node = record { sized = sized; bounded = bounded; run = is; state = subst (IsTableau p) (sym is) (start_state p sized) };
      entries_long = ee ∙ eh;
      products_long = eq ∙ eh;
    }
