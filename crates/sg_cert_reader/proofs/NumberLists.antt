-- Numbers that are read one after the other.
use Rattle.std.proofs.Common.{◌≡◌, ℕ, List, [], ◌∷◌, ◌++◌, Result, Ok, Err, refl, sym, ◌∙◌}
use Rattle.sg_cert.specs.Fields.{fitting, natural_of, numbers_of}

pub numbers_more : (low : ℕ) (done : List ℕ) (fs : List (List ℕ)) (f : List ℕ) (more : List (List ℕ)) (n : ℕ) (whole : Result (List ℕ) ℕ)
    → fs ≡ f ∷ more → Ok n ≡ natural_of low 65535 (fitting f) → numbers_of low 65535 done fs ≡ whole → numbers_of low 65535 (done ++ n ∷ []) more ≡ whole
unfolding numbers_of
numbers_more low done fs f more n whole e h so_far = let one : numbers_of low 65535 done fs ≡ numbers_of low 65535 (done ++ n ∷ []) more = rw (e, ← h) refl in sym one ∙ so_far

pub numbers_fail : (low : ℕ) (done : List ℕ) (fs : List (List ℕ)) (f : List ℕ) (more : List (List ℕ)) (reason : ℕ) (whole : Result (List ℕ) ℕ)
    → fs ≡ f ∷ more → Err reason ≡ natural_of low 65535 (fitting f) → numbers_of low 65535 done fs ≡ whole → Err reason ≡ whole
unfolding numbers_of
numbers_fail low done fs f more reason whole e h so_far = let one : numbers_of low 65535 done fs ≡ Err reason = rw (e, ← h) refl in sym one ∙ so_far

pub numbers_end : (low : ℕ) (done : List ℕ) (fs : List (List ℕ)) (whole : Result (List ℕ) ℕ) → fs ≡ [] → numbers_of low 65535 done fs ≡ whole → Ok done ≡ whole
unfolding numbers_of
numbers_end low done fs whole e so_far = let one : numbers_of low 65535 done fs ≡ Ok done = rw e refl in sym one ∙ so_far
