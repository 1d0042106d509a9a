-- What the contract says, about its own text (`Post`, as the check reads it: the arguments a, the result r, and the parameters at exit s):
-- the answer is as many places on as there are letters and places; the page has three parts, as `put-parts` in Laws.antt says, of the page,
-- the place and the text as they were given; and the text stays.
-- Assumes nothing.
use Prim.Native.Nat.{ℕ, ◌+◌, ◌-◌, ◌≤◌, ◌<◌, min}
use mathlib.Core.Path.{◌≡◌, ◌∙◌}
use mathlib.Core.List.{◌++◌}
use lib.ListN.{length, get_or, take, drop}
use Rattle.pages.proofs.Laws.{put-parts}
use Rattle.pages.proofs.Places.{none-ahead, there}
use Rattle.pages.proofs.find.Reads as find
use Rattle.pages.proofs.text.Reads as text

pub text_says : (κs a r s : _) → text.Post κs a r s
    → (r ≡ a.1.0 + min (length a.0.now - a.1.0) (length a.1.1.0.now))
    × ((s.0.now ≡ take a.1.0 a.0.now ++ (take (length a.0.now - a.1.0) a.1.1.0.now ++ drop r a.0.now))
    × (s.1.1.0.now ≡ a.1.1.0.now))
text_says κs a r s p = (p.0, (rw p.0 (p.1.0 ∙ put-parts a.0.now a.1.0 a.1.1.0.now), p.1.1))

-- no letter ahead of the answer is the one, and the one at the answer is, where the answer is a place of the text
pub find_says : (κs a r s : _) → find.Post κs a r s
    → ((k : ℕ) → k < r → get_or a.0.now k 0 ≡ a.1.0 → ⊥)
    × ((r < length a.0.now → get_or a.0.now r 0 ≡ a.1.0)
    × ((r ≤ length a.0.now)
    × (s.0.now ≡ a.0.now)))
find_says κs a r s p = (
  λ k h. none-ahead a.1.0 a.0.now k (rw p.0 at h),
  (λ h. rw p.0 (there a.1.0 a.0.now (rw p.0 at h)), (p.1.0, p.1.1)),
)
