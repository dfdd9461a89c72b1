use Rattle.ink_tokens.proofs.NumberLemmas.{magnitude-hexadecimal, magnitude-decimal}
use Rattle.ink_tokens.proofs.number.magnitude.Goals as goal

pub returns-then-begins_hexadecimal : goal.returns-then-begins_hexadecimal
returns-then-begins_hexadecimal c =
    magnitude-hexadecimal _ _ _ _ c.capped_number.ensures c.bytes_from.ensures c.if-begins_hexadecimal.ensures.value

pub returns-else-begins_hexadecimal : goal.returns-else-begins_hexadecimal
returns-else-begins_hexadecimal c =
    magnitude-decimal _ _ _ c.capped_number-else-begins_hexadecimal.ensures c.if-begins_hexadecimal.ensures.value
