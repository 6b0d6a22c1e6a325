-- What the fields of parts are in their game, and the other way.
use Rattle.std.proofs.Common.{◌≡◌, ◌≢◌, ◌∙◌, ℕ, ◌≤◌, ◌^◌, Bool, true, false, cond, List, [], ◌∷◌, length, map, get_or, ℤ, pos, negsuc, ◌≤ℤ◌, Option, Some, None, Global, string_bytes, refl, ap, sym, arith}
use Rattle.std.specs.Prelude.{int_lt, is_some, unwrap_or, Vec}
use Rattle.std.specs.List.{All}
use Rattle.std.proofs.lemmas.Int.{ints}
use Rattle.std.proofs.lemmas.List.{length-map}
use Rattle.std.proofs.lemmas.List.Elements.{All-nil, All-cons, All-map}
use Rattle.sg_model.specs.declared.kind.Kind.TheVariants.{Security, Matrix}
use Rattle.sg_model.specs.Limits.{IsWithin, IsPay, IsPayoff, AreLists, IsSecurityType, IsMatrixType}
use Rattle.sg_game.specs.declared.parts.TypeParts.{TypeParts}
use Rattle.sg_game.specs.Building.{IsAtLeast, IsSecurityParts}
use Rattle.sg_game.specs.Faults.{prior_limit, patrol_limit}
use Rattle.sg_game.specs.Seen.{attacker_of, number_lists, texts}
use Rattle.sg_model.specs.Sums.{positive_part}
use Rattle.sg_model.specs.Games.{payoff_of}
use Rattle.sg_game.proofs.Listed.{All-unmap}
use Rattle.sg_game.proofs.Fielded.{IsOptionWithin, IsTyped}
use Rattle.sg_game.proofs.Fresh.{AllPairs-nil}

-- four payoffs

-- each list has four numbers
abbrev pub AreFours : List (Vec ℤ Global) → Type 0
AreFours lists = All (λ (row : Vec ℤ Global). length row.items ≡ 4) lists

pub fours : (row : List ℤ) → length row ≡ 4 → All IsPay row → IsPayoff (payoff_of row)
fours [] n h = absurd (omega arith)
fours (a ∷ []) n h = absurd (omega arith)
fours (a ∷ b ∷ []) n h = absurd (omega arith)
fours (a ∷ b ∷ c ∷ []) n h = absurd (omega arith)
fours (a ∷ b ∷ c ∷ d ∷ []) n h = record { dc = h 0 (pos 0) (omega arith); du = h 1 (pos 0) (omega arith); ac = h 2 (pos 0) (omega arith); au = h 3 (pos 0) (omega arith) }
fours (a ∷ b ∷ c ∷ d ∷ e ∷ xs) n h = absurd (omega arith)

pub all-fours : (row : List ℤ) → length row ≡ 4 → IsPayoff (payoff_of row) → All IsPay row
all-fours [] n h = absurd (omega arith)
all-fours (a ∷ []) n h = absurd (omega arith)
all-fours (a ∷ b ∷ []) n h = absurd (omega arith)
all-fours (a ∷ b ∷ c ∷ []) n h = absurd (omega arith)
all-fours (a ∷ b ∷ c ∷ d ∷ []) n h =
    All-cons IsPay a (b ∷ c ∷ d ∷ []) h.dc (All-cons IsPay b (c ∷ d ∷ []) h.du (All-cons IsPay c (d ∷ []) h.ac (All-cons IsPay d [] h.au (All-nil IsPay))))
all-fours (a ∷ b ∷ c ∷ d ∷ e ∷ xs) n h = absurd (omega arith)

-- types in security form

pub security_from : (goals : ℕ) (limit : ℤ) (x : TypeParts) → limit ≤ℤ pos (2 ^ 20) → IsTyped Security limit goals x → IsSecurityParts x → IsSecurityType goals (attacker_of x)
security_from goals limit x few h own =
    let lists : List (List ℤ) = number_lists x.payoffs.items in
    record {
      prior = record { at_least = h.prior.at_least; at_most = omega (arith, ints, h.prior.at_most) };
      one_each = length-map lists payoff_of ∙ h.pays.rows;
      pays = All-map IsPayoff payoff_of lists (λ i d lt. fours (get_or lists i d) (h.pays.columns i d lt) (h.pays.pays i d lt));
      no_actions = ap texts own.actions;
      no_leader = ap number_lists own.leader;
      no_follower = ap number_lists own.follower;
    }

pub security_to : (goals : ℕ) (limit : ℤ) (x : TypeParts) → x.prior ≤ℤ limit → AreFours x.payoffs.items → IsSecurityType goals (attacker_of x) → IsTyped Security limit goals x
security_to goals limit x few four h =
    let lists : List (List ℤ) = number_lists x.payoffs.items in
    let columns : All (λ (row : List ℤ). length row ≡ 4) lists = All-map (λ (row : List ℤ). length row ≡ 4) (λ (v : Vec ℤ Global). v.items) x.payoffs.items four in
    let each = All-unmap IsPayoff payoff_of lists h.pays in
    record {
      prior = record { at_least = h.prior.at_least; at_most = few };
      pays = record { rows = sym (length-map lists payoff_of) ∙ h.one_each; columns = columns; pays = λ i d lt. all-fours (get_or lists i d) (columns i d lt) (each i d lt) };
    }

-- types in matrix form

pub matrix_from : (goals : ℕ) (limit : ℤ) (x : TypeParts) → limit ≤ℤ pos (2 ^ 20) → IsTyped Matrix limit goals x → x.payoffs.items ≡ [] → IsMatrixType goals (attacker_of x)
matrix_from goals limit x few h own =
    let n = length-map x.actions.items string_bytes in
    record {
      prior = record { at_least = h.prior.at_least; at_most = omega (arith, ints, h.prior.at_most) };
      no_payoffs = ap (λ (lists : List (Vec ℤ Global)). map payoff_of (number_lists lists)) own;
      action_count = record { at_least = omega (arith, n, h.pays.count.at_least); at_most = omega (arith, n, h.pays.count.at_most) };
      action_names = h.pays.names;
      leader = rw n h.pays.leader;
      follower = rw n h.pays.follower;
    }

pub matrix_to : (goals : ℕ) (limit : ℤ) (x : TypeParts) → x.prior ≤ℤ limit → IsMatrixType goals (attacker_of x) → IsTyped Matrix limit goals x
matrix_to goals limit x few h =
    let n = length-map x.actions.items string_bytes in
    record {
      prior = record { at_least = h.prior.at_least; at_most = few };
      pays = record {
        count = record { at_least = omega (arith, n, h.action_count.at_least); at_most = omega (arith, n, h.action_count.at_most) };
        names = h.action_names;
        leader = rw n at h.leader;
        follower = rw n at h.follower;
      };
    }

-- the scale

-- the scale that a game has where the parts have this one
abbrev pub scale_of : Option ℤ → ℤ
scale_of o = unwrap_or o (pos 0)

pub scaled_is : (o : Option ℤ) → IsAtLeast (pos 1) o → int_lt (pos 0) (scale_of o) ≡ is_some o
scaled_is None h = refl
scaled_is (Some z) h = sym (omega (arith, ints, h))

pub scale_range : (o : Option ℤ) → IsOptionWithin (pos 1) (pos (2 ^ 32)) o → IsWithin (pos 0) (pos (2 ^ 32)) (scale_of o)
scale_range None h = record { at_least = omega (arith, ints); at_most = omega (arith, ints) }
scale_range (Some z) h = record { at_least = omega (arith, ints, h.at_least); at_most = h.at_most }

pub scale_within : (o : Option ℤ) → IsAtLeast (pos 1) o → IsWithin (pos 0) (pos (2 ^ 32)) (scale_of o) → IsOptionWithin (pos 1) (pos (2 ^ 32)) o
scale_within None h i = tt
scale_within (Some z) h i = record { at_least = h; at_most = i.at_most }

pub at_least : (low high : ℤ) (o : Option ℤ) → IsOptionWithin low high o → IsAtLeast low o
at_least low high None h = tt
at_least low high (Some z) h = h.at_least

pub none_is : (o : Option ℤ) → IsAtLeast (pos 1) o → scale_of o ≡ pos 0 → is_some o ≡ false
none_is None h e = refl
none_is (Some z) h e = absurd (omega (arith, ints, h, e))

pub some_is : (o : Option ℤ) → pos 1 ≤ℤ scale_of o → is_some o ≡ true
some_is None h = absurd (omega (arith, ints, h))
some_is (Some z) h = refl

pub none_scale : (o : Option ℤ) → is_some o ≡ false → scale_of o ≡ pos 0
none_scale None h = refl
none_scale (Some z) h = absurd (cc)

pub some_scale : (o : Option ℤ) → IsAtLeast (pos 1) o → is_some o ≡ true → pos 1 ≤ℤ scale_of o
some_scale None h i = absurd (cc)
some_scale (Some z) h i = h

pub prior_limit-le : (b : Bool) → prior_limit b ≤ℤ pos (2 ^ 20)
prior_limit-le true = omega (arith, ints)
prior_limit-le false = omega (arith, ints)

-- the patrols

pub count_of-within : (z high : ℤ) (n : ℕ) → high ≡ pos n → IsWithin (pos 0) high z → positive_part z ≤ n
count_of-within (pos k) high n e h = omega (arith, ints, e, h.at_most)
count_of-within (negsuc k) high n e h = omega arith

pub within-count_of : (z high : ℤ) (n : ℕ) → high ≡ pos n → pos 0 ≤ℤ z → positive_part z ≤ n → IsWithin (pos 0) high z
within-count_of (pos k) high n e h i = record { at_least = h; at_most = omega (arith, ints, e, i) }
within-count_of (negsuc k) high n e h i = absurd (omega (arith, ints, h))

pub patrol_limit-is : (b : Bool) → patrol_limit b ≡ pos (cond b 200 32)
patrol_limit-is true = refl
patrol_limit-is false = refl

-- no lists
pub no_lists : (count limit members_limit : ℕ) → AreLists count limit members_limit []
no_lists count limit members_limit = record {
  few = omega arith;
  names = record { spelled = λ i d lt. absurd (omega arith); distinct = AllPairs-nil (λ (x y : List ℕ). x ≢ y) };
  members = λ i d lt. absurd (omega arith);
}
