-- How long the lists of a game are that are written.
use Rattle.std.proofs.Common.{◌≡◌, ◌∙◌, ℕ, true, false, List, [], length, ℤ, refl, sym, arith, inl, inr, None}
use Rattle.std.proofs.lemmas.Bool.{true≢false}
use Rattle.sg_model.specs.Games.{Attacker, Game, action_count, attacker, is_matrix, nobody, resource_count, schedule_count, schedule_targets, resource_schedules, unnamed}
use Rattle.sg_model.specs.Limits.{IsGame, IsMatrixType, IsSecurityType, IsTable}
use Rattle.sg_model.specs.Sums.{nth}
use Rattle.sg_model.proofs.Forms.{no_matrix}
use Rattle.sg_model.proofs.Promises.{game_cases, nth-all, yes_matrix}
use Rattle.sg_game.specs.Counts.{IsTypeOf, IsGoalOf, action_name, resource_name, row_count, schedule_name, target_count}
use Rattle.sg_game_text.specs.declared.tables.Side.{Side}
use Rattle.sg_game_text.specs.declared.tables.Side.TheVariants.{Leader, Follower}
use Rattle.sg_game_text.specs.Writing.{table_of_side}

-- four payoffs for each target
pub payoffs_count : (g : Game) (l : ℕ) → IsGame g → is_matrix g ≡ false → IsTypeOf g l → length (attacker g l).payoffs ≡ target_count g
payoffs_count g l h e known =
    elim (game_cases g h) [
      | inl s ↦ rw e (nth-all (IsSecurityType (length g.goals)) g.types nobody s.game.each_type l known.0 known.1).one_each
      | inr t ↦ absurd (true≢false (sym (yes_matrix g t.kind) ∙ e))
    ]

pub matrix_type : (g : Game) (l : ℕ) → IsGame g → is_matrix g ≡ true → IsTypeOf g l → IsMatrixType (length g.goals) (attacker g l)
matrix_type g l h e known =
    elim (game_cases g h) [
      | inl s ↦ absurd (true≢false (sym e ∙ no_matrix g s.kind))
      | inr t ↦ nth-all (IsMatrixType (length g.goals)) g.types nobody t.game.each_type l known.0 known.1
    ]

side_table : (side : Side) (rows : ℕ) (x : Attacker) → IsMatrixType rows x → IsTable rows (length x.actions) (table_of_side side x)
side_table Leader rows x h = h.leader
side_table Follower rows x h = h.follower

-- a list for each row
pub rows_count : (g : Game) (side : Side) (l : ℕ) → IsGame g → is_matrix g ≡ true → IsTypeOf g l → length (table_of_side side (attacker g l)) ≡ row_count g
rows_count g side l h e known = rw e (side_table side (length g.goals) (attacker g l) (matrix_type g l h e known)).rows

-- a payoff for each action
pub columns_count : (g : Game) (side : Side) (l i : ℕ) → IsGame g → is_matrix g ≡ true → IsTypeOf g l → IsGoalOf g i
    → length (nth (table_of_side side (attacker g l)) i []) ≡ action_count g l
columns_count g side l i h e known at =
    let x = attacker g l in
    let table = side_table side (length g.goals) x (matrix_type g l h e known) in
    rw e (nth-all (λ (row : List ℤ). length row ≡ length x.actions) (table_of_side side x) [] table.columns i at.0 (omega (arith, at.1, table.rows)))

pub actions_count : (g : Game) (l : ℕ) → is_matrix g ≡ true → length (attacker g l).actions ≡ action_count g l
actions_count g l e = rw e refl

-- the targets of a listed schedule
pub listed_targets : (g : Game) (s : ℕ) → g.patrols ≡ None → schedule_targets g s ≡ (nth g.schedules s unnamed).members
listed_targets g s e = rw e refl

-- the schedules of a listed resource
pub listed_schedules : (g : Game) (r : ℕ) → g.patrols ≡ None → resource_schedules g r ≡ (nth g.resources r unnamed).members
listed_schedules g r e = rw e refl

-- the name of an action of the type's own
pub action_name-is : (g : Game) (l a : ℕ) → is_matrix g ≡ true → action_name g l a ≡ nth (attacker g l).actions a []
action_name-is g l a e = rw e refl

-- the names and numbers of what a game lists
pub schedule_name-is : (g : Game) (s : ℕ) → g.patrols ≡ None → schedule_name g s ≡ (nth g.schedules s unnamed).name
schedule_name-is g s e = rw e refl

pub resource_name-is : (g : Game) (r : ℕ) → g.patrols ≡ None → resource_name g r ≡ (nth g.resources r unnamed).name
resource_name-is g r e = rw e refl

pub schedules_count : (g : Game) → g.patrols ≡ None → schedule_count g ≡ length g.schedules
schedules_count g e = rw e refl

pub resources_count : (g : Game) → g.patrols ≡ None → resource_count g ≡ length g.resources
resources_count g e = rw e refl
