-- Each known node is a node of the game.
use Rattle.std.proofs.Common.{◌≡◌, ◌≢◌, ◌⊎◌, ℕ, zero, suc, ◌+◌, ◌-◌, ◌≤◌, ◌<◌, Bool, true, false, cond, List, [], ◌∷◌, ◌++◌, length, count_by, sym, ◌∙◌, ap, subst, refl, arith, inl, inr, ⊎_elim, Contains, All}
use Rattle.std.specs.List.{zip}
use Rattle.std.proofs.lemmas.Bool.{cases_Bool}
use Rattle.std.proofs.lemmas.List.{length_push}
use Rattle.std.proofs.lemmas.List.Sums.{sum_by-cons}
use Rattle.std.proofs.lemmas.List.Elements.{All-cons, All-head, All-nil, All-tail}
use Rattle.sg_model.specs.Sums.{numbers_from}
use Rattle.sg_model.specs.Games.{Game, action_count}
use Rattle.sg_tree.specs.declared.fix.Fix.{Fix}
use Rattle.sg_tree.specs.declared.worked.Worked.{Worked}
use Rattle.sg_bounds.specs.Regions.{alone, prefix, IsFix, IsNode}
use Rattle.sg_search.specs.Searches.{Task, Search, same, worked_count, IsPartOf, IsCapNode, IsKnown}
use Rattle.sg_search.specs.Changes.{MayBegin, MaySplit, MayTake, first_part}
use Rattle.sg_search.specs.Events.{MayBranch}
use Rattle.sg_search.specs.Results.{IsResult}
use Rattle.sg_search.proofs.Placed.{one_if, same-is}
use Rattle.sg_search.proofs.Grown.{are_splits}
use Rattle.sg_search.specs.Sound.{IsSound}
use Rattle.sg_search.proofs.Reported.{runs_are_sound}
use Rattle.sg_lanes.specs.Frontiers.{Frontier, IsFrontier}
use Rattle.sg_lanes.specs.Machines.{Machine}
use Rattle.sg_lanes.proofs.Branched.{branch-split}
use Rattle.sg_lanes.proofs.Glued.{seen}

abbrev IsAct : Game → ℕ × ℕ → Type 0
IsAct g p = (1 ≤ p.1) × (p.1 ≤ action_count g p.0)

zip-push : (g : Game) (b : ℕ) (xs : List ℕ) (a : ℕ) → All (IsAct g) (zip (numbers_from b (length xs)) xs) → IsAct g (b + length xs, a) → All (IsAct g) (zip (numbers_from b (length (xs ++ (a ∷ [])))) (xs ++ (a ∷ [])))
zip-push g b [] a h k =
    let e : b + 0 ≡ b = omega arith in
    All-cons (IsAct g) (b, a) [] (subst (λ (l : ℕ). IsAct g (l, a)) e k) (All-nil (IsAct g))
zip-push g b (x ∷ xs) a h k =
    let e : b + suc (length xs) ≡ (b + 1) + length xs = omega arith in
    All-cons (IsAct g) (b, x) (zip (numbers_from (b + 1) (length (xs ++ (a ∷ [])))) (xs ++ (a ∷ [])))
    (All-head (IsAct g) (b, x) (zip (numbers_from (b + 1) (length xs)) xs) h)
    (zip-push g (b + 1) xs a (All-tail (IsAct g) (b, x) (zip (numbers_from (b + 1) (length xs)) xs) h) (subst (λ (l : ℕ). IsAct g (l, a)) e k))

push-some : (xs : List ℕ) (a : ℕ) → xs ++ (a ∷ []) ≢ []
push-some [] a = λ e. cc
push-some (x ∷ xs) a = λ e. cc

-- a part of a prefix whose actions are the game's
pub part-node : (g : Game) (acts : List ℕ) (x : Fix) → IsPartOf g acts x → All (IsAct g) (zip (numbers_from 1 (length acts)) acts) → length acts < length g.types → IsNode g x
part-node g acts x of each short =
    let low = of.from_one in
    let high = of.in_range in
    let l = length_push acts of.act in
    let z : 1 + length acts ≡ length acts + 1 = omega arith in
    subst (IsNode g) (sym of.node_is) (record {
      is_fix = record {
        some = push-some acts of.act;
        from_one = omega arith;
        in_range = omega (arith, l, short);
        acts = zip-push g 1 acts of.act each (low, subst (λ (n : ℕ). of.act ≤ action_count g n) (sym z) high);
      };
      form = inl refl;
    })

cap-node : (g : Game) (x : Fix) → IsCapNode g x → IsNode g x
cap-node g x lone =
    let two = lone.from_two in
    let high = lone.type_in_range in
    subst (IsNode g) (sym lone.node_is) (record {
      is_fix = record {
        some = λ e. cc;
        from_one = omega (arith, two);
        in_range = omega (arith, high);
        acts = All-cons (IsAct g) (lone.l, lone.act) [] (lone.from_one, lone.in_range) (All-nil (IsAct g));
      };
      form = inr (two, refl);
    })

worked-node : (g : Game) (ws : List Worked) → All (IsResult g) ws → (x : Fix) → 1 ≤ count_by (λ (v : Worked). same x v.fix) ws → IsNode g x
worked-node g [] h x k = absurd (omega (arith, k))
worked-node g (w ∷ ws) h x k =
    let c = sum_by-cons (λ (v : Worked). cond (same x v.fix) 1 0) w ws in
    ⊎_elim
    (λ yes. subst (IsNode g) (sym (same-is x w.fix yes)) (All-head (IsResult g) w ws h).node)
    (λ other. let q : one_if (same x w.fix) ≡ 0 = ap one_if other in worked-node g ws (All-tail (IsResult g) w ws h) x (omega (arith, k, c, q)))
    (cases_Bool (same x w.fix))

module _ (p : Task) (s : Search) (f : Frontier) (h : IsFrontier p s f) where
  split-acts : (acts : List ℕ) → (acts ≡ []) ⊎ (1 ≤ worked_count s (prefix acts)) → All (IsAct p.game) (zip (numbers_from 1 (length acts)) acts)
  split-acts acts (inl e) = subst (λ (xs : List ℕ). All (IsAct p.game) (zip (numbers_from 1 (length xs)) xs)) (sym e) (All-nil (IsAct p.game))
  split-acts acts (inr w) = (worked-node p.game s.worked h.results (prefix acts) w).is_fix.acts

  pub known-node : (x : Fix) → IsKnown p.game s x → IsNode p.game x
  known-node x (inl below) =
      let ok = are_splits p h.peopled h.changes s h.runs in
      part-node p.game below.0 x below.2 (split-acts below.0 (ok.worked below.0 below.1)) (ok.short below.0 below.1)
  known-node x (inr lone) = cap-node p.game x lone

  pub first-node : (acts : List ℕ) → MaySplit p s acts → IsNode p.game (first_part acts)
  first-node acts may =
      let short = may.short in
      part-node p.game acts (first_part acts) (record { act = 1; from_one = omega arith; in_range = h.peopled.actions (length acts + 1) (omega arith) (omega (arith, short)); node_is = refl })
      (split-acts acts (inr may.worked)) short

pub first-node-of : (p : Task) (s : Search) (f : Frontier) (m : Machine) (acts : List ℕ) (g : Game) (x : Fix) → seen p s ≡ m → IsFrontier p s f → MayBranch m.task m.search (prefix acts) → g ≡ m.task.game → x ≡ first_part acts → IsNode g x
first-node-of p s f m acts g x e h b same is =
    let split = branch-split p s acts (subst (λ (w : Machine). MayBranch w.task w.search (prefix acts)) (sym e) b) in
    subst (λ (k : Game). IsNode k x) (ap (λ (w : Machine). w.task.game) e ∙ sym same) (subst (IsNode p.game) (sym is) (first-node p s f h acts split))

pub taken-node-of : (p : Task) (s : Search) (f : Frontier) (m : Machine) (x : Fix) → seen p s ≡ m → IsFrontier p s f → MayTake m.task m.search x → IsNode m.task.game x
taken-node-of p s f m x e h may =
    let k = subst (λ (w : Machine). MayTake w.task w.search x) (sym e) may in
    subst (λ (w : Machine). IsNode w.task.game x) e (known-node p s f h x k.waits.0)

pub sound-of : (p : Task) (s : Search) (f : Frontier) (m : Machine) → seen p s ≡ m → IsFrontier p s f → IsSound m.task m.search
sound-of p s f m e h = subst (λ (w : Machine). IsSound w.task w.search) e (runs_are_sound p h.peopled h.first.commitment h.changes s h.runs h.results)

pub nodes-of : (p : Task) (s : Search) (f : Frontier) (m : Machine) → seen p s ≡ m → IsFrontier p s f → (x : Fix) → MayTake m.task m.search x → IsNode m.task.game x
nodes-of p s f m e h x may = taken-node-of p s f m x e h may

pub same-node : (g h : Game) (x : Fix) → h ≡ g → IsNode g x → IsNode h x
same-node g h x e k = subst (λ (w : Game). IsNode w x) (sym e) k
