-- The limits by their indices.
use Rattle.std.proofs.Common.{◌≡◌, ℕ, ◌<◌, length, slice_index_or, suc, zero, refl, arith}
use Rattle.ink_base.specs.Limits.{all_limits, index_of}
use Rattle.ink_base.specs.declared.limits.Limit.{Limit}
use Rattle.ink_base.specs.declared.limits.Limit.TheVariants.{Source, Height, Frames, Objects, Serial, Array, Text, Processes, Mailbox, Futures, Events, Local, Slice, Workers}

pub limit_at : (limit : Limit) → slice_index_or all_limits (index_of limit) Source ≡ limit
limit_at Source = refl
limit_at Height = refl
limit_at Frames = refl
limit_at Objects = refl
limit_at Serial = refl
limit_at Array = refl
limit_at Text = refl
limit_at Processes = refl
limit_at Mailbox = refl
limit_at Futures = refl
limit_at Events = refl
limit_at Local = refl
limit_at Slice = refl
limit_at Workers = refl

pub index_at : (index : ℕ) (default : Limit) → index < length all_limits → index_of (slice_index_or all_limits index default) ≡ index
index_at zero default below = refl
index_at (suc zero) default below = refl
index_at (suc (suc zero)) default below = refl
index_at (suc (suc (suc zero))) default below = refl
index_at (suc (suc (suc (suc zero)))) default below = refl
index_at (suc (suc (suc (suc (suc zero))))) default below = refl
index_at (suc (suc (suc (suc (suc (suc zero)))))) default below = refl
index_at (suc (suc (suc (suc (suc (suc (suc zero))))))) default below = refl
index_at (suc (suc (suc (suc (suc (suc (suc (suc zero)))))))) default below = refl
index_at (suc (suc (suc (suc (suc (suc (suc (suc (suc zero))))))))) default below = refl
index_at (suc (suc (suc (suc (suc (suc (suc (suc (suc (suc zero)))))))))) default below = refl
index_at (suc (suc (suc (suc (suc (suc (suc (suc (suc (suc (suc zero))))))))))) default below = refl
index_at (suc (suc (suc (suc (suc (suc (suc (suc (suc (suc (suc (suc zero)))))))))))) default below = refl
index_at (suc (suc (suc (suc (suc (suc (suc (suc (suc (suc (suc (suc (suc zero))))))))))))) default below = refl
index_at (suc (suc (suc (suc (suc (suc (suc (suc (suc (suc (suc (suc (suc (suc more)))))))))))))) default below = absurd (omega arith)

pub index_below : (limit : Limit) → index_of limit < length all_limits
index_below Source = omega arith
index_below Height = omega arith
index_below Frames = omega arith
index_below Objects = omega arith
index_below Serial = omega arith
index_below Array = omega arith
index_below Text = omega arith
index_below Processes = omega arith
index_below Mailbox = omega arith
index_below Futures = omega arith
index_below Events = omega arith
index_below Local = omega arith
index_below Slice = omega arith
index_below Workers = omega arith
