-- Which buffers a test of streams chooses.
use Rattle.std.proofs.Common.{◌≡◌, refl, true, false}
use Rattle.std.proofs.lemmas.Bool.{cond-true, cond-false}
use denote.Enum.Bare.{sameb}
use Rattle.write_buffer.specs.contracts.stream.Stream.{the_type}
use Rattle.write_buffer.specs.declared.stream.Stream.{Stream}
use Rattle.write_buffer.specs.declared.stream.Stream.TheVariants.{Client, Defrag}
use Rattle.write_buffer.specs.Buffers.{BufferState}
use Rattle.block_shelf.specs.View.{is_stream}
use Rattle.block_shelf.specs.Changes.{sealed_buffer, sealed_in}

-- the code's test is that of the definitions
pub stream_told : (a b : Stream) → sameb the_type a b ≡ is_stream b a
stream_told Client Client = refl
stream_told Client Defrag = refl
stream_told Defrag Client = refl
stream_told Defrag Defrag = refl

-- a buffer of the stream is sealed
pub in_own : (stream : Stream) (b : BufferState) → is_stream stream b.stream ≡ true → sealed_in stream b ≡ sealed_buffer b
in_own stream b own = cond-true (is_stream stream b.stream) (sealed_buffer b) b own

-- another stays
pub in_other : (stream : Stream) (b : BufferState) → is_stream stream b.stream ≡ false → sealed_in stream b ≡ b
in_other stream b other = cond-false (is_stream stream b.stream) (sealed_buffer b) b other
