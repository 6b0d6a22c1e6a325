-- The parts of a point, formed one after another.
use Rattle.std.proofs.Common.{◌≡◌, ◌≢◌, ℕ, zero, suc, ◌+◌, ◌-◌, ◌*◌, ◌/◌, ◌<◌, ◌≤◌, Bool, true, false, cond, ◌&&◌, List, [], ◌∷◌, ◌++◌, map, flat_map, take, drop, length, sym, ◌∙◌, ap, subst, refl, arith, slice_index_or, get_or, Option, Some, None, Result, Ok, Err, append-nil}
use Rattle.std.specs.List.{All, filter, range_with_len}
use Rattle.std.specs.Option.{option_to_list}
use Rattle.std.specs.Prelude.{ℤ, pos, negsuc, ◌+ℤ◌, ◌*ℤ◌, ◌≤ℤ◌, ◌<ℤ◌, int_lt, unsigned_abs}
use Rattle.std.proofs.lemmas.Int.{ints}
use Rattle.std.proofs.lemmas.List.{drop_all, drop_more, get_or-map, length-map, map-append, take-append-drop, take_all, take_more}
use Rattle.std.proofs.lemmas.List.Concat.{flat_map-append}
use Rattle.std.proofs.lemmas.List.Elements.{All-map}
use Rattle.sg_model.proofs.Best.{All-from_map}
use Rattle.sg_num.specs.declared.step.Op.{Op}
use Rattle.sg_num.specs.declared.step.Op.TheVariants.{Sum, Times}
use Rattle.sg_num.specs.declared.step.Wide.{Wide}
use Rattle.sg_num.specs.Exact.{exact, exact_sum, exact_times, fits, result_of}
use Rattle.sg_num.specs.Operations.{first_wide, formed}
use Rattle.sg_frac.specs.Fractions.{Fraction, IsReducedForm}
use Rattle.sg_frac.proofs.Reduced.{reduced_form-unique}
use Rattle.sg_rows.specs.Rows.{place}
use Rattle.sg_rows.proofs.Fitting.{Err-stops, Ok-fits, Ok-value, first_wide-append_fits, first_wide-append_stops}
use Rattle.sg_bounds.specs.SizeSteps.{running_steps}
use Rattle.sg_lp.specs.declared.column.Column.{Column}
use Rattle.sg_lp.specs.declared.column.Enter.{Enter}
use Rattle.sg_lp.specs.declared.column.Enter.TheVariants.{Slack, Col}
use Rattle.sg_lp.specs.Programs.{IsWithinLimits, Program}
use Rattle.sg_lp.specs.States.{IsTableau, Tableau, member_at, row_at}
use Rattle.sg_programs.specs.Points.{column_in, common_multiple, gcd_of, is_column, is_point_row, lowest_of, multiple_steps, next_multiple, own_product, own_steps, point_rows, point_rows_below, point_steps, point_whole, weight_at, weight_step, weights_of, whole_weight}
use Rattle.sg_programs.proofs.Multiples.{common_multiple_is_least, den-some, lowest-form, next-some}
use Rattle.sg_programs.proofs.PointSums.{dens, rows-more}
use Rattle.sg_dual.specs.declared.part.Part.{Part}
use Rattle.sg_dual.specs.declared.share.Share.{Share}
use Rattle.sg_dual.specs.declared.part.PointFault.{PointFault}
use Rattle.sg_dual.specs.declared.part.PointFault.TheVariants.{Memory, Wide as PointWide}
use Rattle.sg_dual.specs.Parts.{FormOr, IsShareOfRow, RefuseAt, fraction_of, part_of_row, part_of_share, point_parts, share_of_row, share_steps, common_whole}

-- ---- one operation

pub goes : {A : Type 0} (op : Op) (a b z : ℤ) (rest : List Wide) (v : A) → Ok z ≡ exact op a b → formed (record { op = op; left = a; right = b } ∷ rest) v ≡ formed rest v
goes {A} op a b z rest v e = go (fits (result_of op a b)) e
  where
    go : (t : Bool) → ◌≡◌ {A = Result ℤ Wide} (Ok z) (cond t (Ok (result_of op a b)) (Err (record { op = op; left = a; right = b }))) → cond t (formed rest v) (Err (record { op = op; left = a; right = b })) ≡ formed rest v
    go true q = refl
    go false q = absurd (cc)

pub value_is : (op : Op) (a b z : ℤ) → Ok z ≡ exact op a b → z ≡ result_of op a b
value_is op a b z e = go (fits (result_of op a b)) e
  where
    go : (t : Bool) → ◌≡◌ {A = Result ℤ Wide} (Ok z) (cond t (Ok (result_of op a b)) (Err (record { op = op; left = a; right = b }))) → z ≡ result_of op a b
    go true q = cc
    go false q = absurd (cc)

pub stops : {A : Type 0} (op : Op) (a b : ℤ) (w : Wide) (rest : List Wide) (v : A) → Err w ≡ exact op a b → formed (record { op = op; left = a; right = b } ∷ rest) v ≡ Err w
stops {A} op a b w rest v e = go (fits (result_of op a b)) e
  where
    go : (t : Bool) → ◌≡◌ {A = Result ℤ Wide} (Err w) (cond t (Ok (result_of op a b)) (Err (record { op = op; left = a; right = b }))) → cond t (formed rest v) (Err (record { op = op; left = a; right = b })) ≡ Err w
    go true q = absurd (cc)
    go false q = let same : record { op = op; left = a; right = b } ≡ w = cc in ap Err same

-- ---- the share of a row

pub lowest-is : (n d : ℤ) (f : Fraction) → pos 0 <ℤ n → pos 0 <ℤ d → IsReducedForm n d f → f ≡ lowest_of n d
lowest-is n d f h k is = let other : d ≢ pos 0 = λ e. absurd (omega (arith, ints, e, k)) in reduced_form-unique n d f (lowest_of n d) other is (lowest-form n d h k)

low-test : (z : ℤ) → z ≤ℤ pos 0 → int_lt (pos 0) z ≡ false
low-test z h = grind (arith, ints, h)

high-test : (z : ℤ) → pos 0 <ℤ z → int_lt (pos 0) z ≡ true
high-test z h = grind (arith, ints, h)

pub slack_row : (t : Tableau) (i j : ℕ) → member_at t i ≡ Slack j → is_point_row t i ≡ false
slack_row t i j e = ap (λ (b : Enter). is_column b && int_lt (pos 0) (place (row_at t i) 0)) e

pub low_row : (t : Tableau) (i : ℕ) (c : Column) (z : ℤ) → member_at t i ≡ Col c → z ≡ place (row_at t i) 0 → z ≤ℤ pos 0 → is_point_row t i ≡ false
low_row t i c z e is h = ap (λ (b : Enter). is_column b && int_lt (pos 0) (place (row_at t i) 0)) e ∙ low-test (place (row_at t i) 0) (omega (arith, ints, is, h))

pub high_row : (t : Tableau) (i : ℕ) (c : Column) (z : ℤ) → member_at t i ≡ Col c → z ≡ place (row_at t i) 0 → pos 0 <ℤ z → is_point_row t i ≡ true
high_row t i c z e is h = ap (λ (b : Enter). is_column b && int_lt (pos 0) (place (row_at t i) 0)) e ∙ high-test (place (row_at t i) 0) (omega (arith, ints, is, h))

three_by : (h : Column → ℤ → ℤ → Share) (a b : Column) (x y u v : ℤ) → a ≡ b → x ≡ y → u ≡ v → h a x u ≡ h b y v
three_by h a b x y u v p q r = cc

three : (s : Share) (c : Column) (n d : ℤ) → s.col ≡ c → s.num ≡ n → s.den ≡ d → s ≡ record { col = c; num = n; den = d }
three s c n d p q r = three_by (λ (x : Column) (y z : ℤ). record { col = x; num = y; den = z }) s.col c s.num n s.den d p q r

pub row_share : (p : Program) (t : Tableau) (i : ℕ) (c : Column) (first product : ℤ) (s : Share) → member_at t i ≡ Col c → first ≡ place (row_at t i) 0 → pos 0 <ℤ first
    → Ok product ≡ formed (own_steps p t i) (own_product p t i) → s.col ≡ c → s.num ≡ (lowest_of first product).num → s.den ≡ (lowest_of first product).den
    → IsShareOfRow p t i (Ok (Some s))
row_share p t i c first product s e is h value col num den =
    let v : product ≡ own_product p t i = Ok-value (own_steps p t i) (own_product p t i) product value in
    let w : lowest_of first product ≡ weight_at p t i = ap (λ (z : ℤ). lowest_of z product) is ∙ ap (lowest_of (place (row_at t i) 0)) v in (
      high_row t i c first e is h,
      Ok-fits (own_steps p t i) (own_product p t i) product value,
      three s (column_in (member_at t i)) (weight_at p t i).num (weight_at p t i).den (col ∙ sym (ap column_in e)) (num ∙ ap (λ (f : Fraction). f.num) w) (den ∙ ap (λ (f : Fraction). f.den) w),
    )

pub row_stops : (p : Program) (t : Tableau) (i : ℕ) (c : Column) (first : ℤ) (w : Wide) → member_at t i ≡ Col c → first ≡ place (row_at t i) 0 → pos 0 <ℤ first
    → Err w ≡ formed (own_steps p t i) (own_product p t i) → IsShareOfRow p t i (Err w)
row_stops p t i c first w e is h value = (high_row t i c first e is h, Err-stops (own_steps p t i) (own_product p t i) w value)

-- ---- the shares of the first rows

pub record HaveShares (p : Program) (t : Tableau) (i : ℕ) (shares : List Share) : Type 0 where
  pub fit : first_wide (flat_map (own_steps p t) (point_rows_below t i)) ≡ None
  pub all : shares ≡ map (share_of_row p t) (point_rows_below t i)

pub shares-start : (p : Program) (t : Tableau) (shares : List Share) → shares ≡ [] → HaveShares p t 0 shares
shares-start p t shares e = record { fit = refl; all = e }

next-row : (t : Tableau) (i : ℕ) → point_rows_below t (i + 1) ≡ point_rows_below t i ++ cond (is_point_row t i) (i ∷ []) []
next-row t i = let e : i + 1 ≡ suc i = omega arith in ap (point_rows_below t) e ∙ rows-more t i

row-kept : (t : Tableau) (i : ℕ) → is_point_row t i ≡ true → point_rows_below t (i + 1) ≡ point_rows_below t i ++ (i ∷ [])
row-kept t i e = next-row t i ∙ ap (λ (b : Bool). point_rows_below t i ++ cond b (i ∷ []) []) e

row-left : (t : Tableau) (i : ℕ) → is_point_row t i ≡ false → point_rows_below t (i + 1) ≡ point_rows_below t i
row-left t i e = next-row t i ∙ ap (λ (b : Bool). point_rows_below t i ++ cond b (i ∷ []) []) e ∙ append-nil (point_rows_below t i)

pub shares-next : (p : Program) (t : Tableau) (i : ℕ) (shares more : List Share) (share : Option Share) → HaveShares p t i shares → IsShareOfRow p t i (Ok share) → more ≡ shares ++ option_to_list share → HaveShares p t (i + 1) more
shares-next p t i shares more None h is e = record {
  fit = ap (λ (rs : List ℕ). first_wide (flat_map (own_steps p t) rs)) (row-left t i is) ∙ h.fit;
  all = e ∙ append-nil shares ∙ h.all ∙ ap (map (share_of_row p t)) (sym (row-left t i is));
}
shares-next p t i shares more (Some s) h is e = record {
  fit =
      ap (λ (rs : List ℕ). first_wide (flat_map (own_steps p t) rs)) (row-kept t i is.0)
      ∙ ap first_wide (flat_map-append (own_steps p t) (point_rows_below t i) (i ∷ []))
      ∙ first_wide-append_fits (flat_map (own_steps p t) (point_rows_below t i)) (own_steps p t i ++ []) h.fit
      ∙ ap first_wide (append-nil (own_steps p t i)) ∙ is.1;
  all =
      e ∙ ap (λ (z : Share). shares ++ (z ∷ [])) is.2 ∙ ap (λ (zs : List Share). zs ++ (share_of_row p t i ∷ [])) h.all
      ∙ sym (map-append (share_of_row p t) (point_rows_below t i) (i ∷ []))
      ∙ ap (map (share_of_row p t)) (sym (row-kept t i is.0));
}

-- the rows below n behind those below i
filter-append : (test : ℕ → Bool) (xs ys : List ℕ) → filter test (xs ++ ys) ≡ filter test xs ++ filter test ys
filter-append test [] ys = refl
filter-append test (x ∷ xs) ys = elim (test x) as (λ (b : Bool). cond b (x ∷ filter test (xs ++ ys)) (filter test (xs ++ ys)) ≡ cond b (x ∷ filter test xs) (filter test xs) ++ filter test ys) [
  | true ↦ ap (λ (zs : List ℕ). x ∷ zs) (filter-append test xs ys)
  | false ↦ filter-append test xs ys
]

range-split : (a m n : ℕ) → range_with_len a (m + n) ≡ range_with_len a m ++ range_with_len (a + m) n
range-split a zero n = let e : zero + n ≡ n = omega arith in let f : a ≡ a + zero = omega arith in rw e (ap (λ (b : ℕ). range_with_len b n) f)
range-split a (suc m) n =
    let e : suc m + n ≡ suc (m + n) = omega arith in
    let f : a + 1 + m ≡ a + suc m = omega arith in
    rw e (ap (λ (xs : List ℕ). a ∷ xs) (range-split (a + 1) m n ∙ ap (λ (b : ℕ). range_with_len (a + 1) m ++ range_with_len b n) f))

rows-split : (t : Tableau) (i k : ℕ) → point_rows_below t (i + k) ≡ point_rows_below t i ++ filter (is_point_row t) (range_with_len (0 + i) k)
rows-split t i k = ap (filter (is_point_row t)) (range-split 0 i k) ∙ filter-append (is_point_row t) (range_with_len 0 i) (range_with_len (0 + i) k)

pub shares-stop : (p : Program) (t : Tableau) (i : ℕ) (shares : List Share) (w : Wide) → HaveShares p t i shares → i < p.height → IsShareOfRow p t i (Err w) → first_wide (flat_map (own_steps p t) (point_rows p t)) ≡ Some w
shares-stop p t i shares w h lt is =
    let k : ℕ = p.height - (i + 1) in
    let all : p.height ≡ i + 1 + k = omega (arith, lt) in
    let rest : List ℕ = filter (is_point_row t) (range_with_len (0 + (i + 1)) k) in
    let front : List ℕ = point_rows_below t i ++ (i ∷ []) in
    let rows : point_rows p t ≡ front ++ rest = ap (point_rows_below t) all ∙ rows-split t (i + 1) k ∙ ap (λ (rs : List ℕ). rs ++ rest) (row-kept t i is.0) in
    let here : first_wide (flat_map (own_steps p t) front) ≡ Some w =
    ap first_wide (flat_map-append (own_steps p t) (point_rows_below t i) (i ∷ []))
    ∙ first_wide-append_fits (flat_map (own_steps p t) (point_rows_below t i)) (own_steps p t i ++ []) h.fit
    ∙ ap first_wide (append-nil (own_steps p t i)) ∙ is.1 in
    ap (λ (rs : List ℕ). first_wide (flat_map (own_steps p t) rs)) rows ∙ ap first_wide (flat_map-append (own_steps p t) front rest)
    ∙ first_wide-append_stops (flat_map (own_steps p t) front) (flat_map (own_steps p t) rest) w here

pub shares-end : (p : Program) (t : Tableau) (i : ℕ) (shares : List Share) → HaveShares p t i shares → i ≡ p.height
    → (first_wide (flat_map (own_steps p t) (point_rows p t)) ≡ None) × (shares ≡ map (share_of_row p t) (point_rows p t))
shares-end p t i shares h e = (ap (λ (n : ℕ). first_wide (flat_map (own_steps p t) (point_rows_below t n))) (sym e) ∙ h.fit, h.all ∙ ap (λ (n : ℕ). map (share_of_row p t) (point_rows_below t n)) e)

-- ---- multiples

abs-pos : (d : ℤ) → pos 1 ≤ℤ d → pos (unsigned_abs d) ≡ d
abs-pos (pos d) h = refl
abs-pos (negsuc d) h = absurd (omega (arith, ints, h))

-- what is left to form from a multiple on
abbrev pub multiples_from : ℕ → List Fraction → Result ℤ Wide
multiples_from m fs = formed (multiple_steps m fs) (pos (common_multiple m fs))

pub record HasMultiple (fs : List Fraction) (i : ℕ) (multiple : ℤ) : Type 0 where
  pub above : pos 1 ≤ℤ multiple
  pub left : multiples_from 1 fs ≡ multiples_from (unsigned_abs multiple) (drop i fs)

module _ (fs : List Fraction) (i : ℕ) (multiple den : ℤ) (f : Fraction) (h : HasMultiple fs i multiple) (lt : i < length fs) (is : f ≡ get_or fs i f) (den_is : den ≡ f.den) (some : pos 1 ≤ℤ den) where
  abbrev quotient : ℤ
  quotient = pos (unsigned_abs multiple / gcd_of (unsigned_abs multiple) (unsigned_abs den))

  opened : multiples_from (unsigned_abs multiple) (drop i fs) ≡ multiples_from (unsigned_abs multiple) (f ∷ drop (i + 1) fs)
  opened = ap (multiples_from (unsigned_abs multiple)) (drop_more fs i f lt ∙ ap (λ (x : Fraction). x ∷ drop (i + 1) fs) (sym is))

  next-is : quotient *ℤ den ≡ pos (next_multiple (unsigned_abs multiple) f)
  next-is =
      let d : unsigned_abs den ≡ unsigned_abs f.den = ap unsigned_abs den_is in
      ap (λ (z : ℤ). quotient *ℤ z) (sym (abs-pos den some)) ∙ omega (arith, ints)
      ∙ ap (λ (k : ℕ). pos (unsigned_abs multiple / gcd_of (unsigned_abs multiple) k * k)) d

  pub multiple-next : (next : ℤ) → Ok next ≡ exact_times quotient den → HasMultiple fs (i + 1) next
  multiple-next next e =
      let value : next ≡ pos (next_multiple (unsigned_abs multiple) f) = value_is Times quotient den next e ∙ next-is in
      let n : unsigned_abs next ≡ next_multiple (unsigned_abs multiple) f = ap unsigned_abs value in
      let same : quotient ≡ pos (unsigned_abs multiple / gcd_of (unsigned_abs multiple) (unsigned_abs f.den)) = ap (λ (z : ℤ). pos (unsigned_abs multiple / gcd_of (unsigned_abs multiple) (unsigned_abs z))) den_is in
      let e2 : Ok next ≡ exact_times (pos (unsigned_abs multiple / gcd_of (unsigned_abs multiple) (unsigned_abs f.den))) f.den = e ∙ ap (λ (z : ℤ). exact_times z den) same ∙ ap (λ (z : ℤ). exact_times (pos (unsigned_abs multiple / gcd_of (unsigned_abs multiple) (unsigned_abs f.den))) z) den_is in
      record {
        above = (let k = next-some (unsigned_abs multiple) f (den-some multiple h.above) (omega (arith, ints, den_is, some)) in omega (arith, ints, value, k));
        left =
            h.left ∙ opened
            ∙ goes Times (pos (unsigned_abs multiple / gcd_of (unsigned_abs multiple) (unsigned_abs f.den))) f.den next (multiple_steps (next_multiple (unsigned_abs multiple) f) (drop (i + 1) fs)) (pos (common_multiple (next_multiple (unsigned_abs multiple) f) (drop (i + 1) fs))) e2
            ∙ ap (λ (k : ℕ). multiples_from k (drop (i + 1) fs)) (sym n);
      }

  pub multiple-stops : (w : Wide) → Err w ≡ exact_times quotient den → Err w ≡ multiples_from 1 fs
  multiple-stops w e =
      let same : quotient ≡ pos (unsigned_abs multiple / gcd_of (unsigned_abs multiple) (unsigned_abs f.den)) = ap (λ (z : ℤ). pos (unsigned_abs multiple / gcd_of (unsigned_abs multiple) (unsigned_abs z))) den_is in
      let e2 : Err w ≡ exact_times (pos (unsigned_abs multiple / gcd_of (unsigned_abs multiple) (unsigned_abs f.den))) f.den = e ∙ ap (λ (z : ℤ). exact_times z den) same ∙ ap (λ (z : ℤ). exact_times (pos (unsigned_abs multiple / gcd_of (unsigned_abs multiple) (unsigned_abs f.den))) z) den_is in
      sym (h.left ∙ opened
      ∙ stops Times (pos (unsigned_abs multiple / gcd_of (unsigned_abs multiple) (unsigned_abs f.den))) f.den w (multiple_steps (next_multiple (unsigned_abs multiple) f) (drop (i + 1) fs)) (pos (common_multiple (next_multiple (unsigned_abs multiple) f) (drop (i + 1) fs))) e2)

pub multiple-end : (fs : List Fraction) (i : ℕ) (multiple : ℤ) → HasMultiple fs i multiple → length fs ≤ i → Ok multiple ≡ multiples_from 1 fs
multiple-end fs i multiple h le = sym (h.left ∙ ap (multiples_from (unsigned_abs multiple)) (drop_all i fs le) ∙ ap Ok (abs-pos multiple h.above))

-- the same of shares
pub no_share : Share
no_share = record { col = record { len = 0; code = [] }; num = pos 0; den = pos 1 }

pub no_part : Part
no_part = record { col = record { len = 0; code = [] }; weight = pos 0 }

module _ (shares : List Share) (i : ℕ) (multiple den : ℤ) (h : HasMultiple (map fraction_of shares) i multiple) (lt : i < length shares) (is : (s : Share) → den ≡ (slice_index_or shares i s).den) (some : pos 1 ≤ℤ den) where
  abbrev here : Fraction
  here = fraction_of (slice_index_or shares i no_share)

  long : i < length (map fraction_of shares)
  long = omega (arith, lt, length-map shares fraction_of)

  at : here ≡ get_or (map fraction_of shares) i here
  at = sym (get_or-map fraction_of shares i no_share here lt)

  pub share-next : (next : ℤ) → Ok next ≡ exact_times (pos (unsigned_abs multiple / gcd_of (unsigned_abs multiple) (unsigned_abs den))) den → HasMultiple (map fraction_of shares) (i + 1) next
  share-next next e = multiple-next (map fraction_of shares) i multiple den here h long at (is no_share) some next e

  pub share-stops : (w : Wide) → Err w ≡ exact_times (pos (unsigned_abs multiple / gcd_of (unsigned_abs multiple) (unsigned_abs den))) den → Err w ≡ multiples_from 1 (map fraction_of shares)
  share-stops w e = multiple-stops (map fraction_of shares) i multiple den here h long at (is no_share) some w e

-- ---- weights

pub record AreWeighed (m : ℕ) (shares : List Share) (i : ℕ) (parts : List Part) : Type 0 where
  pub fit : first_wide (map (weight_step m) (map fraction_of (take i shares))) ≡ None
  pub all : parts ≡ map (part_of_share m) (take i shares)

abbrev steps_over : ℕ → List Share → List Wide
steps_over m shares = map (weight_step m) (map fraction_of shares)

steps-append : (m : ℕ) (xs ys : List Share) → steps_over m (xs ++ ys) ≡ steps_over m xs ++ steps_over m ys
steps-append m xs ys = ap (map (weight_step m)) (map-append fraction_of xs ys) ∙ map-append (weight_step m) (map fraction_of xs) (map fraction_of ys)

module _ (m : ℕ) (shares : List Share) (i : ℕ) (parts : List Part) (h : AreWeighed m shares i parts) (lt : i < length shares) where
  abbrev s : Share
  s = slice_index_or shares i no_share

  taken : take (i + 1) shares ≡ take i shares ++ (s ∷ [])
  taken = take_more shares i no_share lt

  steps-taken : steps_over m (take (i + 1) shares) ≡ steps_over m (take i shares) ++ (weight_step m (fraction_of s) ∷ [])
  steps-taken = ap (steps_over m) taken ∙ steps-append m (take i shares) (s ∷ [])

  pub weighed-next : (x : Part) (more : List Part) → Ok x ≡ formed (weight_step m (fraction_of s) ∷ []) (part_of_share m s) → more ≡ parts ++ (x ∷ []) → AreWeighed m shares (i + 1) more
  weighed-next x more value e = record {
    fit = ap first_wide steps-taken ∙ first_wide-append_fits (steps_over m (take i shares)) (weight_step m (fraction_of s) ∷ []) h.fit ∙ Ok-fits (weight_step m (fraction_of s) ∷ []) (part_of_share m s) x value;
    all = e ∙ ap (λ (z : Part). parts ++ (z ∷ [])) (Ok-value (weight_step m (fraction_of s) ∷ []) (part_of_share m s) x value) ∙ ap (λ (zs : List Part). zs ++ (part_of_share m s ∷ [])) h.all
        ∙ sym (map-append (part_of_share m) (take i shares) (s ∷ [])) ∙ ap (map (part_of_share m)) (sym taken);
  }

  pub weighed-stop : (w : Wide) → ◌≡◌ {A = Result Part Wide} (Err w) (formed (weight_step m (fraction_of s) ∷ []) (part_of_share m s)) → first_wide (steps_over m shares) ≡ Some w
  weighed-stop w e =
      let rest : List Share = drop (i + 1) shares in
      let all : shares ≡ take (i + 1) shares ++ rest = sym (take-append-drop (i + 1) shares) in
      let here : first_wide (steps_over m (take (i + 1) shares)) ≡ Some w =
      ap first_wide steps-taken ∙ first_wide-append_fits (steps_over m (take i shares)) (weight_step m (fraction_of s) ∷ []) h.fit ∙ Err-stops (weight_step m (fraction_of s) ∷ []) (part_of_share m s) w e in
      ap (λ (xs : List Share). first_wide (steps_over m xs)) all ∙ ap first_wide (steps-append m (take (i + 1) shares) rest) ∙ first_wide-append_stops (steps_over m (take (i + 1) shares)) (steps_over m rest) w here

pub weighed-end : (m : ℕ) (shares : List Share) (i : ℕ) (parts : List Part) → AreWeighed m shares i parts → length shares ≤ i
    → (first_wide (map (weight_step m) (map fraction_of shares)) ≡ None) × (parts ≡ map (part_of_share m) shares)
weighed-end m shares i parts h le =
    let all = take_all i shares le in
    (ap (λ (xs : List Share). first_wide (steps_over m xs)) (sym all) ∙ h.fit, h.all ∙ ap (map (part_of_share m)) all)

-- ---- the running total

abbrev Told : Type 0
Told = Result (Unit {0}) Wide

abbrev pub totals_from : ℤ → List ℤ → Told
totals_from z ws = formed (running_steps z ws) tt

abbrev pub weights : List Part → List ℤ
weights parts = map (λ (x : Part). x.weight) parts

module _ (parts : List Part) (i : ℕ) (total weight : ℤ) (lt : i < length parts) (is : (x : Part) → weight ≡ (slice_index_or parts i x).weight) (x : Part)
    (left : totals_from (pos 0) (weights parts) ≡ totals_from total (weights (drop i parts))) where
  behind : weights (drop i parts) ≡ weight ∷ weights (drop (i + 1) parts)
  behind = ap weights (drop_more parts i x lt) ∙ ap (λ (z : ℤ). z ∷ weights (drop (i + 1) parts)) (sym (is x))

  pub total-next : (next : ℤ) → Ok next ≡ exact_sum total weight → totals_from (pos 0) (weights parts) ≡ totals_from next (weights (drop (i + 1) parts))
  total-next next e =
      left ∙ ap (totals_from total) behind ∙ goes Sum total weight next (running_steps (total +ℤ weight) (weights (drop (i + 1) parts))) tt e
      ∙ ap (λ (z : ℤ). totals_from z (weights (drop (i + 1) parts))) (sym (value_is Sum total weight next e))

  pub total-stops : (w : Wide) → Err w ≡ exact_sum total weight → ◌≡◌ {A = Told} (Err w) (totals_from (pos 0) (weights parts))
  total-stops w e = sym (left ∙ ap (totals_from total) behind ∙ stops Sum total weight w (running_steps (total +ℤ weight) (weights (drop (i + 1) parts))) tt e)

pub total-end : (parts : List Part) (i : ℕ) (total : ℤ) → totals_from (pos 0) (weights parts) ≡ totals_from total (weights (drop i parts)) → length parts ≤ i → ◌≡◌ {A = Told} (Ok tt) (totals_from (pos 0) (weights parts))
total-end parts i total left le = sym (left ∙ ap (λ (xs : List Part). totals_from total (weights xs)) (drop_all i parts le))

-- ---- the parts of shares

-- a whole that is formed, and what is formed by it
module _ (shares : List Share) (dens : All (λ (s : Share). pos 1 ≤ℤ s.den) shares) where
  abbrev multiples : List Wide
  multiples = multiple_steps 1 (map fraction_of shares)

  abbrev over : List Wide
  over = map (weight_step (common_whole shares)) (map fraction_of shares)

  abbrev totals : List Wide
  totals = running_steps (pos 0) (map (whole_weight (common_whole shares)) (map fraction_of shares))

  pub multiples-stop : (w : Wide) → Err w ≡ multiples_from 1 (map fraction_of shares) → first_wide (share_steps shares) ≡ Some w
  multiples-stop w e = first_wide-append_stops multiples (over ++ totals) w (Err-stops multiples (pos (common_whole shares)) w e)

  module _ (whole : ℤ) (is : Ok whole ≡ multiples_from 1 (map fraction_of shares)) where
    whole-value : whole ≡ pos (common_whole shares)
    whole-value = Ok-value multiples (pos (common_whole shares)) whole is

    pub whole-some : pos 1 ≤ℤ whole
    whole-some =
        let least = common_multiple_is_least (map fraction_of shares) (All-map (λ (f : Fraction). pos 1 ≤ℤ f.den) fraction_of shares dens) in
        let w = least.above in
        omega (arith, ints, w, whole-value)

    whole-abs : unsigned_abs whole ≡ common_whole shares
    whole-abs = ap unsigned_abs whole-value

    fit-multiples : (rest : List Wide) → first_wide (multiples ++ rest) ≡ first_wide rest
    fit-multiples rest = first_wide-append_fits multiples rest (Ok-fits multiples (pos (common_whole shares)) whole is)

    over-same : map (weight_step (unsigned_abs whole)) (map fraction_of shares) ≡ over
    over-same = ap (λ (m : ℕ). map (weight_step m) (map fraction_of shares)) whole-abs

    pub weights-refuse : (fault : PointFault) → RefuseAt (map (weight_step (unsigned_abs whole)) (map fraction_of shares)) fault → RefuseAt (share_steps shares) fault
    weights-refuse (PointWide w) e = fit-multiples (over ++ totals) ∙ first_wide-append_stops over totals w (ap first_wide (sym over-same) ∙ e)
    weights-refuse Memory e = tt

    module _ (parts : List Part) (fits_over : first_wide (map (weight_step (unsigned_abs whole)) (map fraction_of shares)) ≡ None) (made : parts ≡ map (part_of_share (unsigned_abs whole)) shares) where
      pub parts-are : parts ≡ map (part_of_share (common_whole shares)) shares
      parts-are = made ∙ ap (λ (m : ℕ). map (part_of_share m) shares) whole-abs

      same-weights : (xs : List Share) → weights (map (part_of_share (common_whole shares)) xs) ≡ map (whole_weight (common_whole shares)) (map fraction_of xs)
      same-weights [] = refl
      same-weights (x ∷ xs) = ap (λ (zs : List ℤ). whole_weight (common_whole shares) (fraction_of x) ∷ zs) (same-weights xs)

      sums : running_steps (pos 0) (weights parts) ≡ totals
      sums = ap (λ (xs : List Part). running_steps (pos 0) (weights xs)) parts-are ∙ ap (running_steps (pos 0)) (same-weights shares)

      fit-over : first_wide (share_steps shares) ≡ first_wide totals
      fit-over = fit-multiples (over ++ totals) ∙ first_wide-append_fits over totals (ap first_wide (sym over-same) ∙ fits_over)

      pub totals-stop : (w : Wide) → ◌≡◌ {A = Told} (Err w) (totals_from (pos 0) (weights parts)) → first_wide (share_steps shares) ≡ Some w
      totals-stop w e = fit-over ∙ ap first_wide (sym sums) ∙ Err-stops (running_steps (pos 0) (weights parts)) tt w e

      pub totals-fit : (u : Unit {0}) → ◌≡◌ {A = Told} (Ok u) (totals_from (pos 0) (weights parts)) → first_wide (share_steps shares) ≡ None
      totals-fit u e = fit-over ∙ ap first_wide (sym sums) ∙ Ok-fits (running_steps (pos 0) (weights parts)) tt u e

-- ---- the parts of a point

fractions-are : (p : Program) (t : Tableau) (is : List ℕ) → map fraction_of (map (share_of_row p t) is) ≡ map (weight_at p t) is
fractions-are p t [] = refl
fractions-are p t (i ∷ is) = ap (λ (fs : List Fraction). weight_at p t i ∷ fs) (fractions-are p t is)

row-parts : (p : Program) (t : Tableau) (m : ℕ) → m ≡ point_whole p t → (is : List ℕ) → map (part_of_share m) (map (share_of_row p t) is) ≡ map (part_of_row p t) is
row-parts p t m e [] = refl
row-parts p t m e (i ∷ is) = two_parts (record { col = column_in (member_at t i); weight = whole_weight m (weight_at p t i) }) (part_of_row p t i) _ _ (ap (λ (k : ℕ). record { col = column_in (member_at t i); weight = whole_weight k (weight_at p t i) }) e) (row-parts p t m e is)
  where
    two_parts : (x y : Part) (xs ys : List Part) → x ≡ y → xs ≡ ys → x ∷ xs ≡ y ∷ ys
    two_parts x y xs ys p q = cc

module _ (p : Program) (t : Tableau) (shares : List Share) (fit : first_wide (flat_map (own_steps p t) (point_rows p t)) ≡ None) (all : shares ≡ map (share_of_row p t) (point_rows p t)) where
  fractions : map fraction_of shares ≡ weights_of p t
  fractions = ap (map fraction_of) all ∙ fractions-are p t (point_rows p t)

  pub dens-some : IsWithinLimits p → IsTableau p t → All (λ (s : Share). pos 1 ≤ℤ s.den) shares
  dens-some sized st = subst (λ (ss : List Share). All (λ (s : Share). pos 1 ≤ℤ s.den) ss) (sym all)
      (All-map (λ (s : Share). pos 1 ≤ℤ s.den) (share_of_row p t) (point_rows p t) (All-from_map (weight_at p t) (λ (f : Fraction). pos 1 ≤ℤ f.den) (point_rows p t) (dens p t sized st)))

  abbrev later : List Fraction → List Wide
  later fs = multiple_steps 1 fs ++ (map (weight_step (common_multiple 1 fs)) fs ++ running_steps (pos 0) (map (whole_weight (common_multiple 1 fs)) fs))

  steps-same : first_wide (point_steps p t) ≡ first_wide (share_steps shares)
  steps-same = first_wide-append_fits (flat_map (own_steps p t) (point_rows p t)) (later (weights_of p t)) fit ∙ ap (λ (fs : List Fraction). first_wide (later fs)) (sym fractions)

  pub refuse-later : (fault : PointFault) → RefuseAt (share_steps shares) fault → RefuseAt (point_steps p t) fault
  refuse-later (PointWide w) e = steps-same ∙ e
  refuse-later Memory e = tt

  pub fit-later : first_wide (share_steps shares) ≡ None → first_wide (point_steps p t) ≡ None
  fit-later e = steps-same ∙ e

  pub parts-point : (parts : List Part) → parts ≡ map (part_of_share (common_whole shares)) shares → parts ≡ point_parts p t
  parts-point parts e = e ∙ ap (map (part_of_share (common_whole shares))) all ∙ row-parts p t (common_whole shares) (ap (common_multiple 1) fractions) (point_rows p t)

pub refuse-first : (p : Program) (t : Tableau) (fault : PointFault) → RefuseAt (flat_map (own_steps p t) (point_rows p t)) fault → RefuseAt (point_steps p t) fault
refuse-first p t (PointWide w) e =
    first_wide-append_stops (flat_map (own_steps p t) (point_rows p t))
    (multiple_steps 1 (weights_of p t) ++ (map (weight_step (point_whole p t)) (weights_of p t) ++ running_steps (pos 0) (map (whole_weight (point_whole p t)) (weights_of p t)))) w e
refuse-first p t Memory e = tt

-- what forms some operations forms others, where their first refusals and values are so
pub forms_through : {A : Type 0} (steps more : List Wide) (Is Are : A → Type 0) → ((fault : PointFault) → RefuseAt steps fault → RefuseAt more fault)
    → (first_wide steps ≡ None → first_wide more ≡ None) → ((x : A) → Is x → Are x) → (r : Result A PointFault) → FormOr steps Is r → FormOr more Are r
forms_through steps more Is Are refuse fit are (Ok x) h = (fit h.0, are x h.1)
forms_through steps more Is Are refuse fit are (Err fault) h = refuse fault h

-- a quotient by a common divisor, of numbers equal to others
pub quotient-is : (divisor : ℕ → ℕ → ℕ) (r : ℤ) (a b g x y : ℕ) → r ≡ pos (a / g) → a ≡ x → b ≡ y → g ≡ divisor a b → r ≡ pos (x / divisor x y)
quotient-is divisor r a b g x y is e f h = is ∙ ap (λ (k : ℕ). pos (a / k)) (h ∙ ap (λ (z : ℕ). divisor z b) e ∙ ap (divisor x) f) ∙ ap (λ (z : ℕ). pos (z / divisor x y)) e
