-- Bits picked and marked in turn. Assumes nothing.
use Rattle.std.specs.Prelude.{ℕ, zero, suc, ◌≡◌, refl, List, [], ◌∷◌, ◌++◌, length, set}
use Rattle.std.proofs.Common.{ap}
use Rattle.spec.specs.Bitmap.{mark, pick, picks}

pub length-picks : (bits : List ℕ) (n : ℕ) → length (picks bits n) ≡ n
unfolding picks
length-picks bits zero = refl
length-picks bits (suc n) = ap suc (length-picks (set bits (pick bits) 1) n)

pub mark-append : (x : ℕ) (bs cs bits : List ℕ) → mark x (bs ++ cs) bits ≡ mark x cs (mark x bs bits)
unfolding mark
mark-append x [] cs bits = refl
mark-append x (b ∷ bs) cs bits = mark-append x bs cs (set bits b x)
