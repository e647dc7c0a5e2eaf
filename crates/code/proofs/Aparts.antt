-- Signs, letters, words, names and numbers are told apart by their bytes.
use Rattle.std.proofs.Common.{◌≡◌, ◌^◌, ◌<◌, true, ℤ, arith, rules}
use lib.Signed.{mag}
use Rattle.std.proofs.lemmas.Bool.Decides.{nat_tests}
use Rattle.std.proofs.lemmas.Fmt.{signed_decimal_injective}
use Rattle.code.specs.Code.{in_range32}
use Rattle.code.specs.Apart.{TextsApart}
use Rattle.code.proofs.Belongings.{same_name}
use Rattle.code.proofs.Readings.{same_text}

small : (n : ℤ) → in_range32 n ≡ true → mag n < 2 ^ 63
small n e = grind (arith, nat_tests)

pub texts_apart : TextsApart
texts_apart = record {
  one_sign = λ o. search rules;
  signs = λ o u e. search rules;
  one_letter = λ p. search rules;
  letters = λ p q e. search rules;
  words = λ a b e. search rules;
  names = same_name;
  numbers = λ m n a b. signed_decimal_injective m n (small m a) (small n b);
  texts = same_text;
}
