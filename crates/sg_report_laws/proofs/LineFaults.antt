-- What stands within a line is never refused as a missing line.
use Rattle.std.proofs.Common.{◌≢◌, ℕ, ◌-◌, ◌^◌, Bool, true, false, cond, List, [], ◌∷◌, ◌++◌, length, drop, Option, Some, None, Result, Ok, Err, arith}
use Rattle.std.specs.Prelude.{ℤ, pos, negsuc, codes, nat_le, ◌&&◌, slice_get, bytes_eq, ◌||◌, unsigned_abs}
use Rattle.std.specs.Int.Signed.{le_z}
use Rattle.sg_num.specs.declared.step.Op.{Op}
use Rattle.sg_num.specs.declared.step.Op.TheVariants.{Sum, Less, Times}
use Rattle.sg_tree.specs.declared.fact.Mark.{Mark}
use Rattle.sg_tree.specs.declared.fact.Line.{Line}
use Rattle.sg_cert.specs.Fields.{count_follows, count_is, fields, fitting, has_word, natural_next, natural_of, numbers_of, shaped_as, shaped_if, shaped_to, spelled_of, whole_next, whole_of, word_at, words_of}
use Rattle.sg_model.specs.Steps.{◌>>=◌}
use Rattle.sg_cert.specs.LineReading.{cap_head_of, cause_of, counts_of, fix_of, fraction_next, fraction_of, follows, gap_of, header_of, highest, in_order, looks_head_of, looks_of, lowest, mark_follows, mark_of, nodes_of, optimal_of, pivots_head_of, pivots_of, plain_of, proved_of, reduced_of, row_follows, multiplier_of, shares, spent_of, split_of, target_of, ticket_head_of, ticket_of, verdict_of, water_of, wide_as, wide_head_of, wide_of}

abbrev pub IsOther : {A : Type 0} → Result A ℕ → Type 0
IsOther (Ok x) = Unit {0}
IsOther (Err e) = e ≢ 2

pub other_then : {A B : Type 0} (r : Result A ℕ) (f : A → Result B ℕ) → IsOther r → ((x : A) → IsOther (f x)) → IsOther (r >>= f)
other_then (Ok x) f h k = k x
other_then (Err e) f h k = h

pub other_if : {A : Type 0} (b : Bool) (x y : Result A ℕ) → IsOther x → IsOther y → IsOther (cond b x y)
other_if true x y h k = h
other_if false x y h k = k

three : ◌≢◌ {A = ℕ} 3 2
three = λ e. omega (arith, e)

four : ◌≢◌ {A = ℕ} 4 2
four = λ e. omega (arith, e)

five : ◌≢◌ {A = ℕ} 5 2
five = λ e. omega (arith, e)

six : ◌≢◌ {A = ℕ} 6 2
six = λ e. omega (arith, e)

seven : ◌≢◌ {A = ℕ} 7 2
seven = λ e. omega (arith, e)

natural : (low high : ℕ) (z : Option ℤ) → IsOther (natural_of low high z)
natural low high None = six
natural low high (Some (pos n)) = other_if (nat_le low n && nat_le n high) (Ok n) (Err 6) tt six
natural low high (Some (negsuc n)) = six

naturals : (low high : ℕ) (fs : List (List ℕ)) → IsOther (natural_next low high fs)
naturals low high [] = six
naturals low high (f ∷ fs) = other_then (natural_of low high (fitting f)) _ (natural low high (fitting f)) (λ n. tt)

whole : (low high : ℤ) (z : Option ℤ) → IsOther (whole_of low high z)
whole low high None = six
whole low high (Some z) = other_if (le_z low z && le_z z high) (Ok z) (Err 6) tt six

wholes : (low high : ℤ) (fs : List (List ℕ)) → IsOther (whole_next low high fs)
wholes low high [] = six
wholes low high (f ∷ fs) = other_then (whole_of low high (fitting f)) _ (whole low high (fitting f)) (λ n. tt)

numbers : (low high : ℕ) (done : List ℕ) (fs : List (List ℕ)) → IsOther (numbers_of low high done fs)
unfolding numbers_of
numbers low high done [] = tt
numbers low high done (f ∷ fs) = other_then (natural_of low high (fitting f)) _ (natural low high (fitting f)) (λ n. numbers low high (done ++ n ∷ []) fs)

word : (w : List ℕ) (field : Option (List ℕ)) → IsOther (word_at w field)
word w None = other_if (bytes_eq w (codes "#")) (Ok tt) (Err 4) tt four
word w (Some field) = other_if (bytes_eq w (codes "#") || bytes_eq w field) (Ok tt) (Err 3) tt three

words : (ws fs : List (List ℕ)) → IsOther (words_of ws fs)
unfolding words_of
words [] fs = tt
words (w ∷ ws) fs = other_then (word_at w (slice_get fs 0)) _ (word w (slice_get fs 0)) (λ x. words ws (drop 1 fs))

shaped : (counted : Bool) (ws : List ℕ) (fs : List (List ℕ)) → IsOther (shaped_if counted ws fs)
unfolding shaped_if
shaped counted ws fs =
    other_then (words_of (fields ws) fs) _ (words (fields ws) fs)
    (λ x. other_if counted (cond (spelled_of (fields ws) fs) (Ok tt) (Err 5)) (Err 4) (other_if (spelled_of (fields ws) fs) (Ok tt) (Err 5) tt five) four)

pub shape : (ws : List ℕ) (low high : ℕ) (fs : List (List ℕ)) → IsOther (shaped_as ws low high fs)
shape ws low high fs = shaped (count_is low high fs) ws fs

shape_to : (ws : List ℕ) (at : ℕ) (fs : List (List ℕ)) → IsOther (shaped_to ws at fs)
shape_to ws at fs = shaped (count_follows at (length fs) (slice_get fs at)) ws fs

order : (b : Bool) → IsOther (in_order b)
order true = tt
order false = seven

reduced : (num den : ℤ) → IsOther (reduced_of num den)
reduced num den = other_if (shares (unsigned_abs num) (unsigned_abs den) (unsigned_abs den)) (Err 6) (Ok (record { num = num; den = den })) six tt

fractions : (fs : List (List ℕ)) → IsOther (fraction_next fs)
unfolding fraction_next
fractions fs = other_then _ _ (wholes lowest highest fs) (λ num. other_then _ _ (wholes (pos 1) highest num.1) (λ den. other_then _ _ (reduced num.0 den.0) (λ f. tt)))

pub fraction : (w : List ℕ) (fs : List (List ℕ)) → IsOther (fraction_of w fs)
unfolding fraction_of
fraction w fs = other_then _ _ (shape w 3 3 fs) (λ s. other_then _ _ (fractions (drop 1 fs)) (λ f. tt))

pub counts : (fs : List (List ℕ)) → IsOther (counts_of fs)
unfolding counts_of
counts fs = other_then _ _ (shape (codes "tickets") 3 3 fs) (λ s. other_then _ _ (naturals 1 (2 ^ 127 - 1) (drop 1 fs)) (λ n. other_then _ _ (wholes lowest highest n.1) (λ t. tt)))

ticket_head : (fs : List (List ℕ)) → IsOther (ticket_head_of fs)
ticket_head fs = other_then (shaped_as (codes "t") 2 202 fs) _ (shape (codes "t") 2 202 fs) (λ s. wholes (pos 1) highest (drop 1 fs))

pub ticket : (before : Option (List ℕ)) (fs : List (List ℕ)) → IsOther (ticket_of before fs)
unfolding ticket_of
ticket before fs =
    other_then (ticket_head_of fs) _ (ticket_head fs) (λ head. other_then _ _ (numbers 0 65535 [] head.1) (λ choices. other_then (in_order (follows before choices)) _ (order (follows before choices)) (λ o. tt)))

pub mark : (before : Option Mark) (fs : List (List ℕ)) → IsOther (mark_of before fs)
unfolding mark_of
mark before fs =
    other_then _ _ (shape (codes "m") 4 4 fs)
    (λ s. other_then _ _ (naturals 1 8 (drop 1 fs)) (λ l. other_then _ _ (naturals 1 65535 l.1) (λ a. other_then _ _ (wholes (pos 1) highest a.1) (λ v. other_then (in_order (mark_follows before l.0 a.0)) _ (order (mark_follows before l.0 a.0)) (λ o. tt)))))

pub row : (before : Option Line) (fs : List (List ℕ)) → IsOther (multiplier_of before fs)
unfolding multiplier_of
row before fs =
    other_then _ _ (shape (codes "c") 3 3 fs) (λ s. other_then _ _ (naturals 1 1535 (drop 1 fs)) (λ l. other_then _ _ (wholes (pos 1) highest l.1) (λ v. other_then (in_order (row_follows before l.0)) _ (order (row_follows before l.0)) (λ o. tt))))

pub header : (w : List ℕ) (fs : List (List ℕ)) → IsOther (header_of w fs)
unfolding header_of
header w fs =
    other_then _ _ (shape w 4 4 fs)
    (λ s. other_then _ _ (wholes (pos 1) highest (drop 1 fs)) (λ rho. other_then _ _ (wholes (pos 0) highest rho.1) (λ mu. other_then _ _ (naturals 0 (2 ^ 127 - 1) mu.1) (λ k. tt))))

spent : (fs : List (List ℕ)) → IsOther (spent_of fs)
unfolding spent_of
spent fs = other_then _ _ (shape (codes "water # # resources") 4 4 fs) (λ s. other_then _ _ (fractions (drop 1 fs)) (λ f. tt))

target : (fs : List (List ℕ)) → IsOther (target_of fs)
unfolding target_of
target fs = other_then _ _ (shape (codes "water # # target #") 5 5 fs) (λ s. other_then _ _ (fractions (drop 1 fs)) (λ f. other_then _ _ (naturals 1 65535 (drop 4 fs)) (λ j. tt)))

pub water : (fs : List (List ℕ)) → IsOther (water_of fs)
water fs = other_if (has_word 3 (codes "resources") fs) (spent_of fs) (target_of fs) (spent fs) (target fs)

plain : (fs : List (List ℕ)) → IsOther (plain_of fs)
unfolding plain_of
plain fs =
    other_then _ _ (shape (codes "cap # plain #") 4 4 fs)
    (λ s. other_then _ _ (naturals 1 8 (drop 1 fs)) (λ l. other_then _ _ (wholes (negsuc (2 ^ 63 - 1)) (pos (2 ^ 63 - 1)) (drop 3 fs)) (λ v. tt)))

proved : (fs : List (List ℕ)) → IsOther (proved_of fs)
unfolding proved_of
proved fs =
    other_then _ _ (shape (codes "cap # proved # #") 5 5 fs)
    (λ s. other_then _ _ (naturals 1 8 (drop 1 fs))
    (λ l. other_then _ _ (wholes (negsuc (2 ^ 63 - 1)) (pos (2 ^ 63 - 1)) (drop 3 fs)) (λ v. other_then _ _ (naturals 1 65535 v.1) (λ n. tt))))

pub cap : (fs : List (List ℕ)) → IsOther (cap_head_of fs)
cap fs = other_if (has_word 2 (codes "plain") fs) (plain_of fs) (proved_of fs) (plain fs) (proved fs)

pub splits : (fs : List (List ℕ)) → IsOther (split_of fs)
unfolding split_of
splits fs = other_then _ _ (shape (codes "split") 3 3 fs) (λ s. other_then _ _ (naturals 1 8 (drop 1 fs)) (λ l. other_then _ _ (naturals 1 65535 l.1) (λ n. tt)))

fix : (fs : List (List ℕ)) → IsOther (fix_of fs)
unfolding fix_of
fix fs = other_then _ _ (naturals 1 8 fs) (λ first. other_then _ _ (naturals 1 8 first.1) (λ k. other_then _ _ (numbers 1 65535 [] k.1) (λ acts. tt)))

nodes : (fs : List (List ℕ)) → IsOther (nodes_of fs)
unfolding nodes_of
nodes fs = other_then _ _ (shape (codes "verdict gap nodes") 4 4 fs) (λ s. other_then _ _ (naturals 1 (2 ^ 64 - 1) (drop 3 fs)) (λ n. tt))

pivots_head : (fs : List (List ℕ)) → IsOther (pivots_head_of fs)
pivots_head fs = other_then (shaped_to (codes "verdict gap pivots") 5 fs) _ (shape_to (codes "verdict gap pivots") 5 fs) (λ s. naturals 1 (2 ^ 64 - 1) (drop 3 fs))

pivots : (fs : List (List ℕ)) → IsOther (pivots_of fs)
unfolding pivots_of
pivots fs = other_then (pivots_head_of fs) _ (pivots_head fs) (λ n. other_then _ _ (fix n.1) (λ f. tt))

looks_head : (fs : List (List ℕ)) → IsOther (looks_head_of fs)
unfolding looks_head_of
looks_head fs =
    other_then _ _ (shape_to (codes "verdict gap looks") 6 fs) (λ s. other_then _ _ (naturals 1 (2 ^ 64 - 1) (drop 3 fs)) (λ n. other_then _ _ (naturals 0 (2 ^ 64 - 1) n.1) (λ step. tt)))

looks : (fs : List (List ℕ)) → IsOther (looks_of fs)
unfolding looks_of
looks fs = other_then (looks_head_of fs) _ (looks_head fs) (λ head. other_then _ _ (fix head.1) (λ f. tt))

wide_head : (op : Op) (ws : List ℕ) (fs : List (List ℕ)) → IsOther (wide_head_of op ws fs)
unfolding wide_head_of
wide_head op ws fs =
    other_then _ _ (shape_to ws 9 fs)
    (λ s. other_then _ _ (naturals 1 7 (drop 3 fs))
    (λ name. other_then _ _ (wholes lowest highest (drop 5 fs)) (λ left. other_then _ _ (wholes lowest highest left.1) (λ right. other_then _ _ (naturals 0 (2 ^ 64 - 1) right.1) (λ step. tt)))))

wide_by : (op : Op) (ws : List ℕ) (fs : List (List ℕ)) → IsOther (wide_as op ws fs)
unfolding wide_as
wide_by op ws fs = other_then (wide_head_of op ws fs) _ (wide_head op ws fs) (λ head. other_then _ _ (fix head.1) (λ f. tt))

wide : (fs : List (List ℕ)) → IsOther (wide_of fs)
wide fs =
    other_if (has_word 4 (codes "sum") fs) (wide_as Sum (codes "verdict gap wide # sum") fs) _ (wide_by Sum (codes "verdict gap wide # sum") fs)
    (other_if (has_word 4 (codes "less") fs) (wide_as Less (codes "verdict gap wide # less") fs) (wide_as Times (codes "verdict gap wide # times") fs)
    (wide_by Less (codes "verdict gap wide # less") fs) (wide_by Times (codes "verdict gap wide # times") fs))

cause : (fs : List (List ℕ)) → IsOther (cause_of fs)
cause fs =
    other_if (has_word 2 (codes "nodes") fs) (nodes_of fs) _ (nodes fs)
    (other_if (has_word 2 (codes "pivots") fs) (pivots_of fs) _ (pivots fs) (other_if (has_word 2 (codes "looks") fs) (looks_of fs) (wide_of fs) (looks fs) (wide fs)))

optimal : (fs : List (List ℕ)) → IsOther (optimal_of fs)
unfolding optimal_of
optimal fs = other_then _ _ (shape (codes "verdict optimal") 2 2 fs) (λ s. tt)

gap : (fs : List (List ℕ)) → IsOther (gap_of fs)
unfolding gap_of
gap fs = other_then (cause_of fs) _ (cause fs) (λ c. tt)

pub verdict : (fs : List (List ℕ)) → IsOther (verdict_of fs)
verdict fs = other_if (has_word 1 (codes "optimal") fs) (optimal_of fs) (gap_of fs) (optimal fs) (gap fs)
