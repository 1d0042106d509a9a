-- Training, sync and the size byte, where there is one, fill the part.
use Rattle.std.proofs.Common.{◌≡◌, ℕ, List, ◌≤◌, ◌++◌, length, take, drop, replicate, sym, ◌∙◌, ap, arith}
use lib.Seq.{length-take-le}
use Rattle.satellites.specs.Satellites.{type_byte_at}
use Rattle.fronts.proofs.Written.{sized}
use Rattle.fronts.proofs.preamble.write.Goals as goal

-- the part with its first bytes filled
filled : (part new : List ℕ) (n : ℕ) → n ≤ length part → new ≡ replicate (length (take n part)) 0xAA → new ++ drop n part ≡ replicate n 0xAA ++ drop n part
filled part new n inside e = ap (λ l. l ++ drop n part) (e ∙ ap (λ k. replicate k 0xAA) (length-take-le n part inside))

pub returns-then-has_size_byte : goal.returns-then-has_size_byte
returns-then-has_size_byte c =
    let a = c.args in
    let n = c.training-n in
    let long : length a.part.now ≡ type_byte_at a.satellite = omega (arith, c.if-part-type_byte_at.false, c.type_byte_at.ensures) in
    sized a.satellite n.result n.ensures a.part.now long (c.fill.new.self ++ drop n.result a.part.now) c.copy_from_slice.new.self
    (filled a.part.now c.fill.new.self n.result (omega (arith, long, n.ensures)) (c.fill.ensures.after (λ y h. h))) c.copy_from_slice.ensures.after
    a.size (sym c.has_size_byte.ensures ∙ c.if-has_size_byte.true)
