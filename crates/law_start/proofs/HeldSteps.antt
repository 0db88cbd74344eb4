-- A seal leaves what is pending as it was.
use Rattle.std.proofs.Common.{◌≡◌}
use Rattle.model_device.specs.Book.{Setup, Stream, pending_of}
use Rattle.model_device.specs.Device.{State}
use Rattle.model_device.specs.Steps.{sealed_stream, after_step}
use Rattle.law_start.proofs.Pending.{seal_shown}

-- ---- a stream is sealed

pub sealed_pending : (setup : Setup) (stream : Stream) (s : State) → pending_of (after_step setup (sealed_stream stream) s).book ≡ pending_of s.book
unfolding after_step
sealed_pending setup stream s = seal_shown stream s.book.buffers
