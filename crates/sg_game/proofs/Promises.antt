-- What the promises of a game give in either form.
use Rattle.std.proofs.Common.{get_or, ◌-◌, ◌≡◌, ℕ, ◌≤◌, ◌^◌, Bool, true, false, cond, List, length, ℤ, pos, Option, Some, None, sym, ◌∙◌, ap, subst, refl, arith}
use Rattle.std.specs.List.{All}
use Rattle.sg_model.specs.declared.kind.Kind.{Kind}
use Rattle.sg_model.specs.declared.kind.Kind.TheVariants.{Security, Matrix}
use Rattle.sg_model.specs.Games.{Game, Named, Attacker, is_matrix, is_kind_matrix, attacker, nobody, action_count}
use Rattle.sg_model.specs.Limits.{IsGame, IsSecurityGame, IsMatrixGame, IsDefended, ArePatrols, AreListed, IsWithin, IsSecurityType, IsMatrixType, AreTypes, is_scaled}
use Rattle.sg_model.proofs.Numbers.{nth-is}
use Rattle.sg_game.specs.Counts.{IsTypeOf}

-- the game of these parts
abbrev made : Kind → ℤ → Option ℕ → List (List ℕ) → List Named → List Named → List Attacker → Game
made k s p goals schedules resources types = record { kind = k; scale = s; patrols = p; goals = goals; schedules = schedules; resources = resources; types = types }

form_of : (P : Type 0) (k : Kind) (s : ℤ) (p : Option ℕ) (goals : List (List ℕ)) (schedules resources : List Named) (types : List Attacker)
    → IsGame (made k s p goals schedules resources types)
    → (k ≡ Security → IsSecurityGame (made k s p goals schedules resources types) → P) → (k ≡ Matrix → IsMatrixGame (made k s p goals schedules resources types) → P) → P
form_of P Security s p goals schedules resources types h security matrix = security refl h
form_of P Matrix s p goals schedules resources types h security matrix = matrix refl h

-- a game is of one form or the other
pub by_form : (g : Game) (P : Type 0) → IsGame g → (g.kind ≡ Security → IsSecurityGame g → P) → (g.kind ≡ Matrix → IsMatrixGame g → P) → P
by_form g P h security matrix = form_of P g.kind g.scale g.patrols g.goals g.schedules g.resources g.types h security matrix

security_made : (k : Kind) (s : ℤ) (p : Option ℕ) (goals : List (List ℕ)) (schedules resources : List Named) (types : List Attacker)
    → k ≡ Security → IsSecurityGame (made k s p goals schedules resources types) → IsGame (made k s p goals schedules resources types)
security_made Security s p goals schedules resources types e h = h
security_made Matrix s p goals schedules resources types e h = absurd (cc)

matrix_made : (k : Kind) (s : ℤ) (p : Option ℕ) (goals : List (List ℕ)) (schedules resources : List Named) (types : List Attacker)
    → k ≡ Matrix → IsMatrixGame (made k s p goals schedules resources types) → IsGame (made k s p goals schedules resources types)
matrix_made Security s p goals schedules resources types e h = absurd (cc)
matrix_made Matrix s p goals schedules resources types e h = h

pub security_game : (g : Game) → g.kind ≡ Security → IsSecurityGame g → IsGame g
security_game g e h = security_made g.kind g.scale g.patrols g.goals g.schedules g.resources g.types e h

pub matrix_game : (g : Game) → g.kind ≡ Matrix → IsMatrixGame g → IsGame g
matrix_game g e h = matrix_made g.kind g.scale g.patrols g.goals g.schedules g.resources g.types e h

defended_by : (k : Kind) (s : ℤ) (p : Option ℕ) (goals : List (List ℕ)) (schedules resources : List Named) (types : List Attacker)
    → let g : Game = made k s p goals schedules resources types in IsDefended g p → (n : ℕ) → p ≡ Some n → ArePatrols g n
defended_by k s None goals schedules resources types h n e = absurd (cc)
defended_by k s (Some m) goals schedules resources types h n e = let q : m ≡ n = cc in subst (ArePatrols (made k s (Some m) goals schedules resources types)) q h

pub defended : (g : Game) → IsDefended g g.patrols → (n : ℕ) → g.patrols ≡ Some n → ArePatrols g n
defended g h n e = defended_by g.kind g.scale g.patrols g.goals g.schedules g.resources g.types h n e

listed_by : (k : Kind) (s : ℤ) (p : Option ℕ) (goals : List (List ℕ)) (schedules resources : List Named) (types : List Attacker)
    → let g : Game = made k s p goals schedules resources types in IsDefended g p → p ≡ None → AreListed g
listed_by k s None goals schedules resources types h e = h
listed_by k s (Some m) goals schedules resources types h e = absurd (cc)

pub listed : (g : Game) → IsDefended g g.patrols → g.patrols ≡ None → AreListed g
listed g h e = listed_by g.kind g.scale g.patrols g.goals g.schedules g.resources g.types h e

-- one of two numbers that are both at most m
cond-le : (b : Bool) (x y m : ℕ) → x ≤ m → y ≤ m → cond b x y ≤ m
cond-le true x y m h i = h
cond-le false x y m h i = i

pub goals_few : (g : Game) → IsGame g → length g.goals ≤ 10000
goals_few g h =
    by_form g (length g.goals ≤ 10000) h
    (λ e s. let few = s.target_count.at_most in let limit = cond-le (is_scaled g) 10000 200 10000 (omega arith) (omega arith) in omega (arith, few, limit))
    (λ e m. omega (arith, m.row_count.at_most))

pub goals_some : (g : Game) → IsGame g → 1 ≤ length g.goals
goals_some g h = by_form g (1 ≤ length g.goals) h (λ e s. s.target_count.at_least) (λ e m. m.row_count.at_least)

pub rows_few : (g : Game) → IsGame g → g.kind ≡ Matrix → length g.goals ≤ 4096
rows_few g h form = by_form g (length g.goals ≤ 4096) h (λ e s. absurd (let q : Security ≡ Matrix = sym e ∙ form in cc)) (λ e m. m.row_count.at_most)

pub are_types : (g : Game) → IsGame g → AreTypes g.types
are_types g h = by_form g (AreTypes g.types) h (λ e s. s.types) (λ e m. m.types)

pub priors_within : (g : Game) → IsGame g → All (λ (x : Attacker). IsWithin (pos 1) (pos (2 ^ 20)) x.prior) g.types
priors_within g h =
    by_form g (All (λ (x : Attacker). IsWithin (pos 1) (pos (2 ^ 20)) x.prior) g.types) h
    (λ e s i d lt. (s.each_type i d lt).prior)
    (λ e m i d lt. (m.each_type i d lt).prior)

pub patrols_few : (g : Game) → IsGame g → (n : ℕ) → g.patrols ≡ Some n → n ≤ 200
patrols_few g h n e =
    by_form g (n ≤ 200) h
    (λ k s. let d = defended g s.defended n e in let few = d.few in let limit = cond-le (is_scaled g) 200 32 200 (omega arith) (omega arith) in omega (arith, few, limit))
    (λ k m. absurd (let q : Some n ≡ None = sym e ∙ m.no_patrols in cc))

-- what is listed where there are no patrols
pub record Listed (g : Game) : Type 0 where
  pub schedules : length g.schedules ≤ 500
  pub resources : length g.resources ≤ 32

pub listed_few : (g : Game) → IsGame g → g.patrols ≡ None → Listed g
listed_few g h e =
    by_form g (Listed g) h
    (λ k s. let d = listed g s.defended e in record { schedules = d.schedules.few; resources = d.resources.few })
    (λ k m. record { schedules = omega (arith, ap length m.no_schedules); resources = omega (arith, ap length m.no_resources) })

-- the attacker of a number in range, as it stands in the list
pub attacker-is : (g : Game) (l : ℕ) → IsTypeOf g l → (x : Attacker) → attacker g l ≡ get_or g.types (l - 1) x
attacker-is g l h x = nth-is g.types l nobody x h.0 h.1

pub All-attacker : (P : Attacker → Type 0) (g : Game) (l : ℕ) → IsTypeOf g l → All P g.types → P (attacker g l)
All-attacker P g l h all = subst P (sym (attacker-is g l h nobody)) (all (l - 1) nobody (omega (arith, h.0, h.1)))

pub prior_within : (g : Game) → IsGame g → (l : ℕ) → IsTypeOf g l → IsWithin (pos 1) (pos (2 ^ 20)) (attacker g l).prior
prior_within g h l at = All-attacker (λ (x : Attacker). IsWithin (pos 1) (pos (2 ^ 20)) x.prior) g l at (priors_within g h)

pub security_type : (g : Game) → IsGame g → g.kind ≡ Security → (l : ℕ) → IsTypeOf g l → IsSecurityType (length g.goals) (attacker g l)
security_type g h e l at = by_form g (IsSecurityType (length g.goals) (attacker g l)) h (λ k s. All-attacker (IsSecurityType (length g.goals)) g l at s.each_type) (λ k m. absurd (let q : Security ≡ Matrix = sym e ∙ k in cc))

pub matrix_type : (g : Game) → IsGame g → g.kind ≡ Matrix → (l : ℕ) → IsTypeOf g l → IsMatrixType (length g.goals) (attacker g l)
matrix_type g h e l at = by_form g (IsMatrixType (length g.goals) (attacker g l)) h (λ k s. absurd (let q : Security ≡ Matrix = sym k ∙ e in cc)) (λ k m. All-attacker (IsMatrixType (length g.goals)) g l at m.each_type)

pub is_security : (g : Game) → g.kind ≡ Security → is_matrix g ≡ false
is_security g e = ap is_kind_matrix e

pub is_a_matrix : (g : Game) → g.kind ≡ Matrix → is_matrix g ≡ true
is_a_matrix g e = ap is_kind_matrix e

-- from one action to 10,000
pub record Acts (g : Game) (l : ℕ) : Type 0 where
  pub some : 1 ≤ action_count g l
  pub few : action_count g l ≤ 10000

pub acts : (g : Game) → IsGame g → (l : ℕ) → IsTypeOf g l → Acts g l
acts g h l at =
    by_form g (Acts g l) h
    (λ e s. let n : action_count g l ≡ length g.goals = rw (is_security g e) refl in record { some = omega (arith, n, goals_some g h); few = omega (arith, n, goals_few g h) })
    (λ e m. let n : action_count g l ≡ length (attacker g l).actions = rw (is_a_matrix g e) refl in
    let t = matrix_type g h e l at in record { some = omega (arith, n, t.action_count.at_least); few = omega (arith, n, t.action_count.at_most) })
