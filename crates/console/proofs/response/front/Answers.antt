use Rattle.std.proofs.Common.{◌≡◌, ℕ, length, take, sym, ap, ◌∙◌, ⊎_elim, arith}
use Rattle.std.proofs.lemmas.List.{take_all}
use Rattle.std.proofs.lemmas.Bool.{cases_lt}
use Rattle.console.proofs.response.front.Goals as goal

pub returns : goal.returns
returns c =
    let bytes = c.args.bytes.now in
    ⊎_elim
    (λ l. let n : c.min.result ≡ length bytes = omega arith in ap (λ (k : ℕ). take k bytes) n ∙ take_all (length bytes) bytes (omega arith) ∙ sym (take_all 4096 bytes (omega arith)))
    (λ l. let n : c.min.result ≡ 4096 = omega arith in ap (λ (k : ℕ). take k bytes) n)
    (cases_lt (length bytes) 4096)
