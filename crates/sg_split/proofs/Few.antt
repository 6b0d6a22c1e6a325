-- Tickets of the plays of all moments are few, since nobody moves but at a cut place.
use Rattle.std.proofs.Common.{◌≡◌, ◌≢◌, ℕ, zero, suc, ◌<◌, ◌≤◌, List, [], ◌∷◌, length, map, ℤ, pos, ◌*ℤ◌, ◌≤ℤ◌, ◌<ℤ◌, sym, ◌∙◌, ap, subst, refl, arith, get_or, bytes_eq, ◌⊎◌, inl, inr}
use Rattle.std.specs.Prelude.{int_rem, unsigned_abs}
use Rattle.std.specs.Cmp.Lexicographic.{bytes_decides}
use Rattle.std.specs.List.{All, AllPairs, Contains}
use Rattle.std.proofs.lemmas.Cmp.{nat_list_eq_equiv}
use Rattle.std.proofs.lemmas.Int.{ints, by_lt_z}
use Rattle.std.proofs.lemmas.List.{get_or_default, length-map}
use Rattle.std.proofs.lemmas.List.Elements.{All-cons, All-contains, All-map, All-nil}
use Rattle.std.proofs.lemmas.Map.Made.{IsDistinct-from_AllPairs, length-le_from_is_member}
use Rattle.std.proofs.lemmas.Map.Views.{Contains-from_any, list_any-from_Contains}
use Rattle.std.proofs.Math.ListN.{get_or-map}
use Rattle.sg_model.specs.declared.ticket.Ticket.{Ticket}
use Rattle.sg_model.specs.Limits.{IsWithin}
use Rattle.sg_model.specs.Sums.{numbers_from}
use Rattle.sg_model.specs.Commitments.{weight_on}
use Rattle.sg_model.proofs.Ints.{mul-le}
use Rattle.sg_model.proofs.Numbers.{All-numbers_from}
use Rattle.sg_split.specs.Laws.{LaidTicketsAreFew}
use Rattle.sg_split.specs.Laying.{ends_from, moment_tickets, play_at}
use Rattle.sg_commit.specs.Parts.{AreMultiple}
use Rattle.sg_commit.proofs.Kept.{has_weight, scaled-passing}
use Rattle.sg_split.proofs.CutPlaces.{plays_stay}
use Rattle.sg_split.proofs.Ends.{length-ends_from}
use Rattle.sg_split.proofs.Legal.{holds-weighed}
use Rattle.sg_split.proofs.Mixes.{ticket_of}
use Rattle.sg_split.proofs.Tickets.{abs-natural}

-- ---- the last cut place at or before a moment

-- of c and the items of cs, d is the last that is at most m
record IsLast (c : ℤ) (cs : List ℤ) (m d : ℤ) : Type 0 where
  among : Contains (c ∷ cs) d
  from : c ≤ℤ d
  upto : d ≤ℤ m
  last : All (λ x. (x ≤ℤ d) ⊎ (m <ℤ x)) cs

second : (c x : ℤ) (cs : List ℤ) (d : ℤ) → Contains (c ∷ cs) d → Contains (c ∷ x ∷ cs) d
second c x cs d (zero, lt, e) = (zero, omega arith, e)
second c x cs d (suc i, lt, e) = (suc (suc i), omega (arith, lt), e)

later : (c : ℤ) (cs : List ℤ) (d : ℤ) → Contains cs d → Contains (c ∷ cs) d
later c cs d (i, lt, e) = (suc i, omega (arith, lt), e)

last_at : (c : ℤ) (cs : List ℤ) (m : ℤ) → c ≤ℤ m → (d : ℤ) × IsLast c cs m d
last_at c [] m h = (c, record { among = (0, omega arith, refl); from = omega (arith, ints); upto = h; last = All-nil (λ x. (x ≤ℤ c) ⊎ (m <ℤ x)) })
last_at c (x ∷ cs) m h =
    let skip : (x ≤ℤ c) ⊎ (m <ℤ x) → (d : ℤ) × IsLast c (x ∷ cs) m d = λ apart.
    let r = last_at c cs m h in
    let here : (x ≤ℤ r.0) ⊎ (m <ℤ x) = elim apart [ inl low ↦ inl (omega (arith, ints, low, r.1.from)) | inr high ↦ inr high ] in
    (r.0, record { among = second c x cs r.0 r.1.among; from = r.1.from; upto = r.1.upto; last = All-cons (λ x. (x ≤ℤ r.0) ⊎ (m <ℤ x)) x cs here r.1.last }) in
    by_lt_z m x
    (λ high. skip (inr high))
    (λ upto. by_lt_z x c
    (λ low. skip (inl (omega (arith, ints, low))))
    (λ from.
    let r = last_at x cs m upto in (
      r.0,
      record {
        among = later c (x ∷ cs) r.0 r.1.among;
        from = omega (arith, ints, from, r.1.from);
        upto = r.1.upto;
        last = All-cons (λ x. (x ≤ℤ r.0) ⊎ (m <ℤ x)) x cs (inl r.1.from) r.1.last;
      },
    )))

-- ---- the play of each moment is that of a cut place

-- the moments of the patrols at which the counts end
abbrev ends_at : List ℤ → ℤ → List ℤ
ends_at counts d = map (λ end. int_rem end d) (ends_from (pos 0) counts)

-- the plays of moment 0 and of those moments
abbrev cut_plays : List ℤ → ℕ → ℤ → List (List ℕ)
cut_plays counts patrols d = map (play_at (ends_from (pos 0) counts) patrols d) (pos 0 ∷ ends_at counts d)

pub Contains-map : {X Y : Type 0} (f : X → Y) (xs : List X) (x : X) → Contains xs x → Contains (map f xs) (f x)
Contains-map f xs x h = (h.0, omega (arith, h.1, length-map xs f), get_or-map f xs h.0 x ∙ ap f h.2)

play_is_cut : (counts : List ℤ) (patrols : ℕ) (d : ℤ) → pos 1 ≤ℤ d → All (IsWithin (pos 0) d) counts → (m : ℤ) → pos 0 ≤ℤ m → m <ℤ d
    → Contains (cut_plays counts patrols d) (play_at (ends_from (pos 0) counts) patrols d m)
play_is_cut counts patrols d positive within m low high =
    let ends : List ℤ = ends_from (pos 0) counts in
    let r = last_at (pos 0) (ends_at counts d) m low in
    let stays : play_at ends patrols d r.0 ≡ play_at ends patrols d m =
    plays_stay counts patrols d positive within r.0 m r.1.from r.1.upto high (λ o after upto cut. elim cut [
      | inl start ↦ omega (arith, ints, start, after, r.1.from)
      | inr end ↦ (
          let k_lt : end.0 < length (ends_at counts d) = omega (arith, end.1, length-map ends (λ end. int_rem end d), length-ends_from (pos 0) counts) in
          let here : get_or (ends_at counts d) end.0 (int_rem (pos 0) d) ≡ o = get_or-map (λ end. int_rem end d) ends end.0 (pos 0) ∙ sym end.2 in
          elim (r.1.last end.0 (int_rem (pos 0) d) k_lt) [
            | inl before ↦ omega (arith, ints, here, before, after)
            | inr past ↦ omega (arith, ints, here, past, upto)
          ])
    ]) in
    subst (Contains (cut_plays counts patrols d)) stays (Contains-map (play_at ends patrols d) (pos 0 ∷ ends_at counts d) r.0 r.1.among)

plays_are_cut : (counts : List ℤ) (patrols : ℕ) (d : ℤ) → pos 1 ≤ℤ d → All (IsWithin (pos 0) d) counts
    → All (λ (x : Ticket). Contains (cut_plays counts patrols d) x.play.code) (moment_tickets counts patrols d)
unfolding moment_tickets
plays_are_cut counts patrols d positive within =
    let ends : List ℤ = ends_from (pos 0) counts in
    All-map (λ (x : Ticket). Contains (cut_plays counts patrols d) x.play.code) (λ (i : ℕ). ticket_of (play_at ends patrols d (pos i)) (pos 1)) (numbers_from 0 (unsigned_abs d))
    (All-numbers_from (λ i. Contains (cut_plays counts patrols d) (play_at ends patrols d (pos i))) 0 (unsigned_abs d)
    (λ i low high. play_is_cut counts patrols d positive within (pos i) (omega (arith, ints)) (omega (arith, ints, abs-natural d (omega (arith, ints, positive)), high))))

-- ---- tickets of different plays are at most as many

codes_apart : (k : List Ticket) → AllPairs (λ (x y : Ticket). x.play.code ≢ y.play.code) k → AllPairs (λ x y. x ≢ y) (map (λ (x : Ticket). x.play.code) k)
codes_apart k apart i j d before within same =
    let code = λ (x : Ticket). x.play.code in
    let t : Ticket = ticket_of d (pos 0) in
    apart i j t before (omega (arith, within, length-map k code)) (sym (get_or-map code k i t) ∙ (same ∙ get_or-map code k j t))

-- tickets of different plays, all of which some others give weight, are no more than these
pub few_plays : (all k : List Ticket) → All (λ (x : Ticket). pos 1 ≤ℤ x.weight) k → AllPairs (λ (x y : Ticket). x.play.code ≢ y.play.code) k → AreMultiple all k → length k ≤ length all
few_plays all k weights distinct multiple =
    let code = λ (x : Ticket). x.play.code in
    let plays : List (List ℕ) = map code all in
    let c : ℤ = multiple.0 in
    let among : All (λ (x : Ticket). Contains plays x.play.code) all = λ i x lt. Contains-map code all (get_or all i x) (i, lt, get_or_default all i (get_or all i x) x lt) in
    let each : All (λ (x : Ticket). Contains plays x.play.code) k = λ i x lt.
    let play : List ℕ = (get_or k i x).play.code in
    let on : weight_on all play ≡ c *ℤ weight_on k play = multiple.2 play ∙ scaled-passing (λ p. bytes_eq p play) c k in
    let some : pos 1 ≤ℤ weight_on k play = has_weight k weights i x lt in
    let more = mul-le (pos 1) c (weight_on k play) multiple.1 (omega (arith, ints, some)) in
    holds-weighed (Contains plays) all among play (λ e. absurd (omega (arith, ints, on, some, more, e))) in
    let few : length (map code k) ≤ length plays =
    length-le_from_is_member nat_list_eq_equiv (map code k) plays (IsDistinct-from_AllPairs bytes_decides (map code k) (codes_apart k distinct)) (λ q inside.
    list_any-from_Contains nat_list_eq_equiv q plays
    (All-contains (Contains plays) (map code k) q (All-map (Contains plays) code k each) (Contains-from_any (λ x y. (bytes_decides x y).0) q (map code k) inside))) in
    omega (arith, few, length-map k code, length-map all code)

pub laid_few : LaidTicketsAreFew
laid_few counts patrols d positive within k weights distinct multiple =
    let code = λ (x : Ticket). x.play.code in
    let all : List Ticket = moment_tickets counts patrols d in
    let cuts : List (List ℕ) = cut_plays counts patrols d in
    let c : ℤ = multiple.0 in
    let each : All (λ (x : Ticket). Contains cuts x.play.code) k = λ i x lt.
    let play : List ℕ = (get_or k i x).play.code in
    let on : weight_on all play ≡ c *ℤ weight_on k play = multiple.2 play ∙ scaled-passing (λ p. bytes_eq p play) c k in
    let some : pos 1 ≤ℤ weight_on k play = has_weight k weights i x lt in
    let more = mul-le (pos 1) c (weight_on k play) multiple.1 (omega (arith, ints, some)) in
    holds-weighed (Contains cuts) all (plays_are_cut counts patrols d positive within) play (λ e. absurd (omega (arith, ints, on, some, more, e))) in
    let few : length (map code k) ≤ length cuts =
    length-le_from_is_member nat_list_eq_equiv (map code k) cuts (IsDistinct-from_AllPairs bytes_decides (map code k) (codes_apart k distinct)) (λ q inside.
    list_any-from_Contains nat_list_eq_equiv q cuts
    (All-contains (Contains cuts) (map code k) q (All-map (Contains cuts) code k each) (Contains-from_any (λ x y. (bytes_decides x y).0) q (map code k) inside))) in
    omega (arith, few, length-map k code, length-map (pos 0 ∷ ends_at counts d) (play_at (ends_from (pos 0) counts) patrols d), length-map (ends_from (pos 0) counts) (λ end. int_rem end d), length-ends_from (pos 0) counts)
