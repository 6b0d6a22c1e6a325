-- What actions pay, play by play.
use Rattle.std.proofs.Common.{◌≡◌, ◌∙◌, ℕ, ◌+◌, ◌-◌, ◌<◌, ◌≤◌, Bool, true, false, cond, List, [], ◌∷◌, length, map, sym, ap, subst, refl, arith, slice_index_or, get_or}
use Rattle.std.specs.Prelude.{ℤ, pos}
use Rattle.std.specs.List.{Contains}
use Rattle.std.proofs.lemmas.List.{get_or-map, length-map}
use Rattle.sg_model.specs.declared.kind.Kind.TheVariants.{Matrix}
use Rattle.sg_model.specs.Games.{Game, is_kind_matrix, is_matrix}
use Rattle.sg_model.specs.Limits.{IsGame, IsPay}
use Rattle.sg_model.specs.Sums.{nth, numbers}
use Rattle.sg_model.specs.Plays.{covers}
use Rattle.sg_model.specs.PlayLists.{legal_plays, play_count}
use Rattle.sg_model.proofs.Numbers.{length-numbers_from, nth-is, nth-numbers_from}
use Rattle.sg_model.proofs.Promises.{pay_a-in_range, pay_d-in_range}
use Rattle.sg_rows.specs.Rows.{place}
use Rattle.sg_dobss.specs.declared.paying.Side.{Side}
use Rattle.sg_dobss.specs.declared.paying.Side.TheVariants.{Defender, Attacker}
use Rattle.sg_game.specs.Counts.{row_count}
use Rattle.sg_lp.specs.declared.column.Column.{Column}
use Rattle.sg_programs.specs.Plays.{column_of}
use Rattle.sg_dobss.specs.Covering.{AreCovered}
use Rattle.sg_dobss.proofs.Ranks.{place-of}
use Rattle.sg_dobss.specs.Paying.{AreByPlay, AreNumbers, covered_pay, pay, listed_play, uncovered_pay}

-- a payoff by coverage
pay-covered : (g : Game) → is_matrix g ≡ false → (side : Side) (l : ℕ) (play : List ℕ) (a : ℕ) → cond (covers g play a) (covered_pay side g l a) (uncovered_pay side g l a) ≡ pay side g l play a
pay-covered g security Defender l play a = rw security refl
pay-covered g security Attacker l play a = rw security refl

pub picked-by_play : (g : Game) → is_matrix g ≡ false → (side : Side) (l a : ℕ) (covered : List Bool) (pays : List ℤ) → covered ≡ map (λ play. covers g play a) (legal_plays g)
    → pays ≡ map (λ b. cond b (covered_pay side g l a) (uncovered_pay side g l a)) covered → AreByPlay g (λ play. pay side g l play a) pays
picked-by_play g security side l a covered pays e h =
    let pick : Bool → ℤ = λ b. cond b (covered_pay side g l a) (uncovered_pay side g l a) in
    let count : length covered ≡ length (legal_plays g) = ap length e ∙ length-map (legal_plays g) (λ play. covers g play a) in
    record {
      long = ap length h ∙ length-map covered pick ∙ count;
      each = λ k lt.
          ap (λ (xs : List ℤ). place xs k) h
          ∙ get_or-map pick covered k false (pos 0) (omega (arith, lt, count))
          ∙ ap (λ (xs : List Bool). pick (slice_index_or xs k false)) e
          ∙ ap pick (get_or-map (λ play. covers g play a) (legal_plays g) k [] false lt)
          ∙ pay-covered g security side l (listed_play g k) a;
    }

-- the rows as plays
pub play_at-row : (g : Game) → is_matrix g ≡ true → (i : ℕ) → i < length g.goals → listed_play g i ≡ (i + 1) ∷ []
play_at-row g matrix i lt =
    let e : legal_plays g ≡ map (λ row. row ∷ []) (numbers (length g.goals)) = rw matrix refl in
    let swap : 1 + i ≡ i + 1 = omega arith in
    ap (λ (xs : List (List ℕ)). slice_index_or xs i []) e
    ∙ get_or-map (λ (row : ℕ). row ∷ []) (numbers (length g.goals)) i 0 [] (omega (arith, lt, length-numbers_from 1 (length g.goals)))
    ∙ ap (λ (n : ℕ). n ∷ []) (nth-numbers_from 1 (length g.goals) i 0 lt ∙ swap)

pub rows-count : (g : Game) → is_matrix g ≡ true → length (legal_plays g) ≡ length g.goals
rows-count g matrix =
    let e : legal_plays g ≡ map (λ row. row ∷ []) (numbers (length g.goals)) = rw matrix refl in
    ap length e ∙ length-map (numbers (length g.goals)) (λ (row : ℕ). row ∷ []) ∙ length-numbers_from 1 (length g.goals)

pub pay-in_range : (g : Game) → IsGame g → (side : Side) (l : ℕ) (play : List ℕ) (a : ℕ) → IsPay (pay side g l play a)
pay-in_range g h Defender l play a = pay_d-in_range g h l play a
pay-in_range g h Attacker l play a = pay_a-in_range g h l play a

-- by the coverage of the target
pub joint-by_play : (g : Game) → is_matrix g ≡ false → (coverage : List (List Bool)) → AreCovered g coverage → (side : Side) (l a : ℕ) → 1 ≤ a → a ≤ length g.goals → (row covered : List Bool) (inside outside : ℤ) (pays : List ℤ)
    → row ≡ get_or coverage (a - 1) row → covered ≡ row → inside ≡ covered_pay side g l a → outside ≡ uncovered_pay side g l a → pays ≡ map (λ b. cond b inside outside) covered
    → AreByPlay g (λ play. pay side g l play a) pays
joint-by_play g security coverage are side l a low high row covered inside outside pays at e f h q =
    let here : nth coverage a [] ≡ get_or coverage (a - 1) row = nth-is coverage a [] row low (omega (arith, high, are.long security)) in
    picked-by_play g security side l a covered pays (e ∙ at ∙ sym here ∙ are.each security a low high)
    (q ∙ ap (λ z. map (λ b. cond b z outside) covered) f ∙ ap (λ z. map (λ b. cond b (covered_pay side g l a) z) covered) h)

-- a row below their number
pub row-below : (g : Game) → is_matrix g ≡ true → (n i : ℕ) → n ≡ row_count g → i < n → i < length g.goals
row-below g matrix n i e lt = let is : row_count g ≡ length g.goals = rw matrix refl in omega (arith, lt, e, is)

pub row-is : (g : Game) → is_matrix g ≡ true → (side : Side) (l a n i : ℕ) (v : ℤ) → n ≡ row_count g → i < n → v ≡ pay side g l ((i + 1) ∷ []) a → v ≡ pay side g l (listed_play g i) a
row-is g matrix side l a n i v e lt h = h ∙ ap (λ play. pay side g l play a) (sym (play_at-row g matrix i (row-below g matrix n i e lt)))

pub rows-all : (g : Game) → is_matrix g ≡ true → (f : List ℕ → ℤ) (n i : ℕ) (xs : List ℤ) → n ≡ row_count g → n ≤ i → i ≤ n → AreNumbers i (λ k. f (listed_play g k)) xs → AreByPlay g f xs
rows-all g matrix f n i xs e le ge are =
    let is : row_count g ≡ length g.goals = rw matrix refl in
    let count : i ≡ length (legal_plays g) = omega (arith, e, le, ge, is, rows-count g matrix) in
    subst (λ m. AreNumbers m (λ k. f (listed_play g k)) xs) count are

-- a row as a column, by the form that was read
pub row-column : (g : Game) (count k : ℕ) → Matrix ≡ g.kind → count ≡ play_count g → k < count → column_of ((k + 1) ∷ []) ≡ column_of (listed_play g k)
row-column g count k form e lt =
    let matrix : is_matrix g ≡ true = ap is_kind_matrix (sym form) in
    let rows : play_count g ≡ length g.goals = rw matrix refl in
    ap column_of (sym (play_at-row g matrix k (omega (arith, lt, e, rows))))

-- the place of a row's column
pub row-place : (g : Game) (count : ℕ) (col : Column) → Matrix ≡ g.kind → count ≡ play_count g → Contains (map column_of (legal_plays g)) col
    → (1 ≤ slice_index_or col.code 0 0) × (slice_index_or col.code 0 0 - 1 < count) × (column_of (listed_play g (slice_index_or col.code 0 0 - 1)) ≡ col)
row-place g count col form e h =
    let matrix : is_matrix g ≡ true = ap is_kind_matrix (sym form) in
    let rows : play_count g ≡ length g.goals = rw matrix refl in
    let p = place-of g col h in
    let k : ℕ = p.0 in
    let lt : k < length g.goals = (let a = p.1 in omega (arith, a, rows-count g matrix)) in
    let play : listed_play g k ≡ (k + 1) ∷ [] = play_at-row g matrix k lt in
    let first : slice_index_or col.code 0 0 ≡ k + 1 = ap (λ (c : Column). slice_index_or c.code 0 0) (sym p.2) ∙ ap (λ q. slice_index_or (column_of q).code 0 0) play in
    let same : slice_index_or col.code 0 0 - 1 ≡ k = omega (arith, first) in
    (omega (arith, first), omega (arith, same, lt, e, rows), ap (λ n. column_of (listed_play g n)) same ∙ p.2)
