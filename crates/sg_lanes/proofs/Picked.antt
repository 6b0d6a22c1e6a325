-- The node of a number, and the bound by which it is ranked.
use Rattle.std.proofs.Common.{◌≡◌, ◌⊎◌, ℕ, zero, suc, ◌+◌, ◌-◌, ◌≤◌, ◌<◌, Bool, true, false, true≢false, cond, List, [], ◌∷◌, ◌++◌, map, length, get_or, sym, ◌∙◌, ap, subst, refl, arith, Option, Some, None, inl, inr, ⊎_elim, Contains, All, length-append}
use Rattle.std.specs.Prelude.{slice_get}
use Rattle.std.proofs.lemmas.List.Elements.{All-contains}
use Rattle.sg_frac.specs.Fractions.{Fraction, IsReducedForm}
use Rattle.sg_tree.specs.declared.fix.Fix.{Fix}
use Rattle.sg_bounds.specs.Regions.{prefix}
use Rattle.sg_bounds.specs.Leaves.{root_bound}
use Rattle.sg_search.specs.declared.event.Ready.{Ready}
use Rattle.sg_search.specs.declared.event.Event.{Event}
use Rattle.sg_search.specs.Searches.{Task, Search, IsPartOf, IsCapNode, taken_count}
use Rattle.sg_search.specs.Bounding.{inherited, is_over, own_bound}
use Rattle.sg_search.specs.Changes.{MayTake}
use Rattle.sg_search.specs.Events.{AreChoices, IsChoice, IsEnabled, IsRank, MayBranch, MayChoose, Tells}
use Rattle.sg_search.proofs.Chosen.{choice-at}
use Rattle.sg_search.proofs.Listing.{none-in}
use Rattle.sg_search.proofs.Told.{at-in, enabled_means}
use Rattle.sg_lanes.specs.declared.ripe.Ripe.{Ripe}
use Rattle.sg_lanes.specs.declared.choose.Choice.{Choice}
use Rattle.sg_lanes.specs.declared.choose.Choice.TheVariants.{Take, Branch}
use Rattle.sg_lanes.specs.Bounds.{Stands, StandsFor}
use Rattle.sg_lanes.specs.Choices.{IsChosen, choice_list, is_over_by, open_parts, or_else, ripe_nodes, split_choices}
use Rattle.sg_lanes.specs.Frontiers.{Frontier, IsFrontier}
use Rattle.sg_lanes.specs.Machines.{IsNumber, IsRankOf, Machine}
use Rattle.sg_lanes.proofs.Chosen.{choices-are, from-may, group-over, may-from, open-parts, takes-are}
use Rattle.sg_lanes.proofs.Glued.{seen}

get-left : {X : Type 0} (xs ys : List X) (n : ℕ) → n < length xs → slice_get (xs ++ ys) n ≡ slice_get xs n
get-left [] ys n lt = absurd (omega (arith, lt))
get-left (x ∷ xs) ys zero lt = refl
get-left (x ∷ xs) ys (suc n) lt = get-left xs ys n (omega (arith, lt))

get-right : {X : Type 0} (xs ys : List X) (n : ℕ) → length xs ≤ n → slice_get (xs ++ ys) n ≡ slice_get ys (n - length xs)
get-right [] ys n le = ap (λ (k : ℕ). slice_get ys k) (let e : n ≡ n - 0 = omega arith in e)
get-right (x ∷ xs) ys zero le = absurd (omega (arith, le))
get-right (x ∷ xs) ys (suc n) le = get-right xs ys n (omega (arith, le)) ∙ ap (λ (k : ℕ). slice_get ys k) (let e : n - length xs ≡ suc n - suc (length xs) = omega arith in e)

get-past : {X : Type 0} (xs : List X) (n : ℕ) (x : X) → slice_get xs n ≡ Some x → n < length xs
get-past [] n x e = absurd (none-some e)
  where
    none-some : {Y : Type 0} {y : Y} → None ≡ Some y → ⊥
    none-some h = cc
get-past (z ∷ xs) zero x e = omega arith
get-past (z ∷ xs) (suc n) x e = let r = get-past xs n x e in omega (arith, r)

-- the item at a place
pub get-some : {X : Type 0} (xs : List X) (n : ℕ) (x : X) → n < length xs → x ≡ get_or xs n x → slice_get xs n ≡ Some x
get-some [] n x lt e = absurd (omega (arith, lt))
get-some {X} (z ∷ xs) zero x lt e = ap (λ (w : X). Some w) (sym e)
get-some (z ∷ xs) (suc n) x lt e = get-some xs n x (omega (arith, lt)) e

or-first : (xs ys : List Fix) (n : ℕ) → n < length xs → or_else xs ys ≡ xs
or-first [] ys n lt = absurd (omega (arith, lt))
or-first (x ∷ xs) ys n lt = refl

get-keyed : (rs : List Ripe) (n : ℕ) (r : Ripe) → slice_get rs n ≡ Some r → slice_get (ripe_nodes rs) n ≡ Some r.node
get-keyed [] n r e = absurd (none-some e)
  where
    none-some : {y : Ripe} → None ≡ Some y → ⊥
    none-some h = cc
get-keyed (z ∷ rs) zero r e = ap (λ (x : Fix). Some x) (ap (λ (x : Ripe). x.node) (inside e))
  where
    inside : {a b : Ripe} → Some a ≡ Some b → a ≡ b
    inside h = cc
get-keyed (z ∷ rs) (suc n) r e = get-keyed rs n r e

pub stands-some : (f : Fraction) (o : Option Fraction) → StandsFor (Some f) o → (x : Fraction) × (o ≡ Some x) × Stands f x
stands-some f None h = absurd h
stands-some f (Some x) h = (x, refl, h)

module _ (p : Task) (s : Search) (f : Frontier) (h : IsFrontier p s f) (n : ℕ) where
  abbrev takes : List Fix
  takes = open_parts f.group f.value f.parts ++ f.lone

  -- the parts stand first
  open-is-parts : n < length (open_parts f.group f.value f.parts) → (is_over_by f.group f.value ≡ true) × (open_parts f.group f.value f.parts ≡ f.parts)
  open-is-parts lt = by (is_over_by f.group f.value) refl lt
    where
      by : (b : Bool) → is_over_by f.group f.value ≡ b → n < length (cond b f.parts []) → (is_over_by f.group f.value ≡ true) × (open_parts f.group f.value f.parts ≡ f.parts)
      by true e l = (e, ap (λ (b : Bool). cond b f.parts []) e)
      by false e l = absurd (omega (arith, l))

  place-take : (x : Fix) → slice_get takes n ≡ Some x → IsChoice p s n x × MayTake p s x
  place-take x e =
      let lt = get-past takes n x e in (
        record {
          nodes = choice_list f.group f.value f.parts f.lone f.undone f.ripe;
          choices = choices-are p s f h;
          place = ap (λ (xs : List Fix). slice_get xs n) (or-first takes (split_choices f.undone f.ripe) n lt) ∙ e;
        },
        ((takes-are p s f h).each x).0 (at-in takes n x e),
      )

  pub part-chosen : (x : Fix) → n < length (open_parts f.group f.value f.parts) → slice_get f.parts n ≡ Some x → IsChoice p s n x × MayTake p s x
  part-chosen x lt e =
      place-take x (get-left (open_parts f.group f.value f.parts) f.lone n lt ∙ ap (λ (xs : List Fix). slice_get xs n) (open-is-parts lt).1 ∙ e)

  pub lone-chosen : (x : Fix) → length (open_parts f.group f.value f.parts) ≤ n → slice_get f.lone (n - length (open_parts f.group f.value f.parts)) ≡ Some x → IsChoice p s n x × MayTake p s x
  lone-chosen x le e = place-take x (get-right (open_parts f.group f.value f.parts) f.lone n le ∙ e)

  -- past these there is a prefix to be split
  number-choice : IsNumber p s n → (x : Fix) × (slice_get (choice_list f.group f.value f.parts f.lone f.undone f.ripe) n ≡ Some x)
  number-choice i =
      let e = (i.told.each (Event.Begin i.lane n) refl).1 i.below in
      let k = ((enabled_means p s i.lane).begin n).0 e in
      (k.1.0, choice-at p s (choice_list f.group f.value f.parts f.lone f.undone f.ripe) (choices-are p s f h) n k.1.0 k.1.1)

  record IsPast : Type 0 where
    none : takes ≡ []
    undone : f.undone ≡ []
    nodes : choice_list f.group f.value f.parts f.lone f.undone f.ripe ≡ ripe_nodes f.ripe

  past : IsNumber p s n → length takes ≤ n → IsPast
  past i le = by takes refl le (number-choice i)
    where
      none-some : {y : Fix} → None ≡ Some y → ⊥
      none-some h = cc

      by-undone : (us : List Fix) → f.undone ≡ us → takes ≡ [] → (x : Fix) × (slice_get (split_choices us f.ripe) n ≡ Some x) → IsPast
      by-undone [] e q c = record { none = q; undone = e; nodes = ap (λ (xs : List Fix). or_else xs (split_choices f.undone f.ripe)) q ∙ ap (λ (us : List Fix). split_choices us f.ripe) e }
      by-undone (u ∷ us) e q c = absurd (none-some c.1)

      by : (xs : List Fix) → takes ≡ xs → length xs ≤ n → (x : Fix) × (slice_get (or_else xs (split_choices f.undone f.ripe)) n ≡ Some x) → IsPast
      by [] q l c = by-undone f.undone refl q c
      by (y ∷ ys) q l c = absurd (let lt = get-past (y ∷ ys) n c.0 c.1 in omega (arith, lt, l))

  pub past-in : IsNumber p s n → length (open_parts f.group f.value f.parts) + length f.lone ≤ n → n < length f.ripe
  past-in i le =
      let t = length-append (open_parts f.group f.value f.parts) f.lone in
      let q = past i (omega (arith, t, le)) in
      let c = number-choice i in
      let lt = get-past (ripe_nodes f.ripe) n c.0 (ap (λ (xs : List Fix). slice_get xs n) (sym q.nodes) ∙ c.1) in
      let l = Rattle.std.proofs.lemmas.List.length-map f.ripe (λ (x : Ripe). x.node) in
      omega (arith, lt, l)

  pub record IsPicked (r : Ripe) : Type 0 where
    pub choice : IsChoice p s n r.node
    pub branch : MayBranch p s r.node
    pub node : r.node ≡ prefix r.node.acts
    pub bound : StandsFor (Some r.bound) (own_bound p.game s r.node.acts)

  pub ripe-chosen : IsNumber p s n → length (open_parts f.group f.value f.parts) + length f.lone ≤ n → (r : Ripe) → slice_get f.ripe n ≡ Some r → IsPicked r
  ripe-chosen i le r e =
      let t = length-append (open_parts f.group f.value f.parts) f.lone in
      let q = past i (omega (arith, t, le)) in
      let place = ap (λ (xs : List Fix). slice_get xs n) q.nodes ∙ get-keyed f.ripe n r e in
      let all = choices-are p s f h in
      let may = (all.each r.node).0 (at-in (choice_list f.group f.value f.parts f.lone f.undone f.ripe) n r.node place) in
      let k = (h.ripe.each r.node).0 (at-in (ripe_nodes f.ripe) n r.node (get-keyed f.ripe n r e)) in
      record {
        choice = record { nodes = choice_list f.group f.value f.parts f.lone f.undone f.ripe; choices = all; place = place };
        branch = ⊎_elim (λ take. absurd (none-in (subst (λ (xs : List Fix). Contains xs r.node) q.none (((takes-are p s f h).each r.node).1 take)))) (λ b. b) may;
        node = subst (λ (z : Fix). z ≡ prefix z.acts) (sym k.1) refl;
        bound = All-contains (λ (x : Ripe). StandsFor (Some x.bound) (own_bound p.game s x.node.acts)) f.ripe r h.bounds (at-in f.ripe n r e);
      }

  -- ---- ranks

  pub part-rank : (b : Fraction) (x : Fix) → n < length (open_parts f.group f.value f.parts) → slice_get f.parts n ≡ Some x → f.group ≡ Some b → IsRankOf p s n b
  part-rank b x lt e g =
      let c = part-chosen x lt e in
      let k = (h.parts.each x).0 (at-in f.parts n x e) in
      let w = stands-some b (inherited p.game s h.last) (subst (λ (o : Option Fraction). StandsFor o (inherited p.game s h.last)) g h.group) in
      record { node = x; bound = w.0; choice = c.0; rank = inr (inl (h.last, k.0, c.1, w.1)); equal = w.2 }

  pub lone-rank : (x : Fix) → length (open_parts f.group f.value f.parts) ≤ n → slice_get f.lone (n - length (open_parts f.group f.value f.parts)) ≡ Some x → IsRankOf p s n f.root
  lone-rank x le e =
      let c = lone-chosen x le e in
      let k = (h.lone.each x).0 (at-in f.lone (n - length (open_parts f.group f.value f.parts)) x e) in
      record { node = x; bound = root_bound p.game; choice = c.0; rank = inl (k.0, refl); equal = h.root }

  pub ripe-rank : IsNumber p s n → length (open_parts f.group f.value f.parts) + length f.lone ≤ n → (r : Ripe) → slice_get f.ripe n ≡ Some r → IsRankOf p s n r.bound
  ripe-rank i le r e =
      let k = ripe-chosen i le r e in
      let w = stands-some r.bound (own_bound p.game s r.node.acts) k.bound in
      record { node = r.node; bound = w.0; choice = k.choice; rank = inr (inr (k.branch, w.1)); equal = w.2 }

-- ---- for the machine as its callers see it

pub takes-is : (g : Option Fraction) (w : Fraction) (xs a : List Fix) (n : ℕ) → n ≡ length (open_parts g w a) → a ≡ xs → n ≡ length (open_parts g w xs)
takes-is g w xs a n e q = e ∙ ap (λ (zs : List Fix). length (open_parts g w zs)) q

open-le : (g : Option Fraction) (w : Fraction) (xs : List Fix) → length (open_parts g w xs) ≤ length xs
open-le g w xs = by (is_over_by g w)
  where
    by : (b : Bool) → length (cond b xs []) ≤ length xs
    by true = omega arith
    by false = omega arith

copied : {X : Type 0} (xs : List X) (n : ℕ) (x r : X) → x ≡ r → r ≡ get_or xs n r → x ≡ get_or xs n x
copied {X} xs n x r e q = subst (λ (z : X). z ≡ get_or xs n z) (sym e) q

pub pick-part : (p : Task) (s : Search) (f : Frontier) (m : Machine) (n : ℕ) (a : List Fix) (takes : ℕ) (x r : Fix) → seen p s ≡ m → IsFrontier p s f → takes ≡ length (open_parts f.group f.value a) → a ≡ f.parts → n < takes
    → x ≡ r → r ≡ get_or f.parts n r → IsChoice m.task m.search n x × MayTake m.task m.search x
pick-part p s f m n a takes x r e h is ea lt same at =
    let t = takes-is f.group f.value f.parts a takes is ea in
    let le = open-le f.group f.value f.parts in
    subst (λ (w : Machine). IsChoice w.task w.search n x × MayTake w.task w.search x) e
    (part-chosen p s f h n x (omega (arith, lt, t)) (get-some f.parts n x (omega (arith, lt, t, le)) (copied f.parts n x r same at)))

pub pick-lone : (p : Task) (s : Search) (f : Frontier) (m : Machine) (n : ℕ) (a : List Fix) (takes : ℕ) (x r : Fix) → seen p s ≡ m → IsFrontier p s f → takes ≡ length (open_parts f.group f.value a) → a ≡ f.parts → takes ≤ n
    → n - takes < length f.lone → x ≡ r → r ≡ get_or f.lone (n - takes) r → IsChoice m.task m.search n x × MayTake m.task m.search x
pick-lone p s f m n a takes x r e h is ea le lt same at =
    let t = takes-is f.group f.value f.parts a takes is ea in
    subst (λ (w : Machine). IsChoice w.task w.search n x × MayTake w.task w.search x) e
    (lone-chosen p s f h n x (omega (arith, le, t))
    (subst (λ (k : ℕ). slice_get f.lone (n - k) ≡ Some x) t (get-some f.lone (n - takes) x lt (copied f.lone (n - takes) x r same at))))

pub ripe-within : (p : Task) (s : Search) (f : Frontier) (m : Machine) (n : ℕ) (a : List Fix) (takes : ℕ) → seen p s ≡ m → IsFrontier p s f → takes ≡ length (open_parts f.group f.value a) → a ≡ f.parts → takes ≤ n
    → length f.lone ≤ n - takes → IsNumber m.task m.search n → n < length f.ripe
ripe-within p s f m n a takes e h is ea le more i =
    let t = takes-is f.group f.value f.parts a takes is ea in
    past-in p s f h n (subst (λ (w : Machine). IsNumber w.task w.search n) (sym e) i) (omega (arith, t, le, more))

pub pick-ripe : (p : Task) (s : Search) (f : Frontier) (m : Machine) (n : ℕ) (a : List Fix) (takes : ℕ) (acts : List ℕ) (r : Ripe) → seen p s ≡ m → IsFrontier p s f → takes ≡ length (open_parts f.group f.value a) → a ≡ f.parts → takes ≤ n
    → length f.lone ≤ n - takes → IsNumber m.task m.search n → acts ≡ r.node.acts → r ≡ get_or f.ripe n r
    → IsChoice m.task m.search n (prefix acts) × MayBranch m.task m.search (prefix acts) × StandsFor (Some r.bound) (own_bound m.task.game m.search acts)
pick-ripe p s f m n a takes acts r e h is ea le more i same at =
    let t = takes-is f.group f.value f.parts a takes is ea in
    let j = subst (λ (w : Machine). IsNumber w.task w.search n) (sym e) i in
    let far : length (open_parts f.group f.value f.parts) + length f.lone ≤ n = omega (arith, t, le, more) in
    let k = ripe-chosen p s f h n j far r (get-some f.ripe n r (past-in p s f h n j far) at) in
    let node : r.node ≡ prefix acts = k.node ∙ ap prefix (sym same) in
    subst (λ (w : Machine). IsChoice w.task w.search n (prefix acts) × MayBranch w.task w.search (prefix acts) × StandsFor (Some r.bound) (own_bound w.task.game w.search acts)) e
    (subst (IsChoice p s n) node k.choice, subst (MayBranch p s) node k.branch, subst (λ (z : List ℕ). StandsFor (Some r.bound) (own_bound p.game s z)) (sym same) k.bound)

pub rank-part : (p : Task) (s : Search) (f : Frontier) (m : Machine) (n : ℕ) (a : List Fix) (takes : ℕ) (b : Fraction) → seen p s ≡ m → IsFrontier p s f → takes ≡ length (open_parts f.group f.value a) → a ≡ f.parts → n < takes → f.group ≡ Some b → IsRankOf m.task m.search n b
rank-part p s f m n a takes b e h is ea lt g =
    let t = takes-is f.group f.value f.parts a takes is ea in
    let le = open-le f.group f.value f.parts in
    let x = place-at f.parts n (omega (arith, lt, t, le)) in
    subst (λ (w : Machine). IsRankOf w.task w.search n b) e (part-rank p s f h n b x.0 (omega (arith, lt, t)) x.1 g)
  where
    place-at : (xs : List Fix) (k : ℕ) → k < length xs → (x : Fix) × (slice_get xs k ≡ Some x)
    place-at [] k q = absurd (omega (arith, q))
    place-at (x ∷ xs) zero q = (x, refl)
    place-at (x ∷ xs) (suc k) q = place-at xs k (omega (arith, q))

-- without a bound no part may be taken
pub group-there : (f : Frontier) (a : List Fix) (takes n : ℕ) → takes ≡ length (open_parts f.group f.value a) → n < takes → f.group ≡ None → ⊥
group-there f a takes n is lt e =
    let z : takes ≡ 0 = is ∙ ap (λ (o : Option Fraction). length (open_parts o f.value a)) e in
    omega (arith, z, lt)

pub rank-lone : (p : Task) (s : Search) (f : Frontier) (m : Machine) (n : ℕ) (a : List Fix) (takes : ℕ) → seen p s ≡ m → IsFrontier p s f → takes ≡ length (open_parts f.group f.value a) → a ≡ f.parts → takes ≤ n
    → n - takes < length f.lone → IsRankOf m.task m.search n f.root
rank-lone p s f m n a takes e h is ea le lt =
    let t = takes-is f.group f.value f.parts a takes is ea in
    let x = place-at f.lone (n - takes) lt in
    subst (λ (w : Machine). IsRankOf w.task w.search n f.root) e
    (lone-rank p s f h n x.0 (omega (arith, le, t)) (subst (λ (k : ℕ). slice_get f.lone (n - k) ≡ Some x.0) t x.1))
  where
    place-at : (xs : List Fix) (k : ℕ) → k < length xs → (x : Fix) × (slice_get xs k ≡ Some x)
    place-at [] k q = absurd (omega (arith, q))
    place-at (x ∷ xs) zero q = (x, refl)
    place-at (x ∷ xs) (suc k) q = place-at xs k (omega (arith, q))

pub rank-ripe : (p : Task) (s : Search) (f : Frontier) (m : Machine) (n : ℕ) (a : List Fix) (takes : ℕ) (r : Ripe) → seen p s ≡ m → IsFrontier p s f → takes ≡ length (open_parts f.group f.value a) → a ≡ f.parts → takes ≤ n
    → length f.lone ≤ n - takes → IsNumber m.task m.search n → r ≡ get_or f.ripe n r → IsRankOf m.task m.search n r.bound
rank-ripe p s f m n a takes r e h is ea le more i at =
    let t = takes-is f.group f.value f.parts a takes is ea in
    let j = subst (λ (w : Machine). IsNumber w.task w.search n) (sym e) i in
    let far : length (open_parts f.group f.value f.parts) + length f.lone ≤ n = omega (arith, t, le, more) in
    subst (λ (w : Machine). IsRankOf w.task w.search n r.bound) e (ripe-rank p s f h n j far r (get-some f.ripe n r (past-in p s f h n j far) at))
