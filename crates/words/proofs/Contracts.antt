-- What the contracts say, about their own text (`Post`, as the check reads it: the arguments a, the result r, and the parameters at
-- exit s): the definitions of the very text, number, base and place that the call was given. And each text that is read stays.
-- Assumes nothing.
use mathlib.Core.Path.{◌≡◌}
use mathlib.Core.List.{[]}
use lib.ListN.{length, get_or}
use Rattle.words.specs.Words.{words_of}
use Rattle.words.specs.Numbers.{are_digits, decimal_of, pairs_of, left_by}
use Rattle.words.proofs.word.Reads as word
use Rattle.words.proofs.count.Reads as count
use Rattle.words.proofs.are_digits.Reads as are-digits
use Rattle.words.proofs.decimal.Reads as decimal
use Rattle.words.proofs.pairs.Reads as pairs

-- word number n of the line's words, or an empty one
pub word-says : (κs a r s : _) → word.Post κs a r s → (r.now ≡ get_or (words_of a.0.now) a.1.0 []) × (s.0.now ≡ a.0.now)
word-says κs a r s p = p

-- and so many there are
pub count-says : (κs a r s : _) → count.Post κs a r s → (r ≡ length (words_of a.0.now)) × (s.0.now ≡ a.0.now)
count-says κs a r s p = p

pub are-digits-says : (κs a r s : _) → are-digits.Post κs a r s → (r ≡ are_digits a.1.0 a.0.now) × (s.0.now ≡ a.0.now)
are-digits-says κs a r s p = p

pub decimal-says : (κs a r s : _) → decimal.Post κs a r s → (r ≡ decimal_of a.0.now) × (s.0.now ≡ a.0.now)
decimal-says κs a r s p = p

-- what is left in `out` goes by the answer: it changes only where the answer is a number of bytes
pub pairs-says : (κs a r s : _) → pairs.Post κs a r s
    → (r ≡ pairs_of a.0.now a.1.0.now)
    × ((s.0.now ≡ a.0.now) × (s.1.0.now ≡ left_by r a.0.now a.1.0.now))
pairs-says κs a r s p = p
