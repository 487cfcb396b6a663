-- Why no bitmaps are in a message.
use Rattle.std.proofs.Common.{◌≡◌, ℕ, ◌≤◌, List, length, drop, refl, ap, arith}
use Rattle.domain_wire.specs.Refusals.{refusal}
use Rattle.domain_wire.specs.declared.error.ParseError.{ParseError}
use Rattle.domain_dnssec.specs.BitmapReading.{HasBitmapsFault, NoBitmaps, bitmaps_refusal}
use Rattle.domain_dnssec.specs.BitmapReading.NoBitmaps.{too_much, no_blocks}
use Rattle.domain_dnssec.specs.TypeBitmaps.{NoBlocks}
use Rattle.domain_dnssec.specs.declared.type_bitmaps.TypeBitmapsError.{TypeBitmapsError}
use Rattle.domain_dnssec.specs.declared.type_bitmaps.TypeBitmapsError.TheVariants.{Long, ShortInput, WindowOrder, BitmapLength}

few_wrong : (m o : List ℕ) (p : ℕ) (fault : TypeBitmapsError) (why : ParseError) → o ≡ drop p m → p ≤ length m → (length o ≤ 65535) × NoBlocks o fault → refusal why ≡ bitmaps_refusal fault → NoBitmaps m p why
few_wrong m o p fault why is inside wrong told =
    no_blocks o (length m) fault (record { inside = inside; all = is; few = wrong.0; after = refl }) wrong.1 told

pub bitmaps_missing : (m o : List ℕ) (p : ℕ) (fault : TypeBitmapsError) (why : ParseError) → o ≡ drop p m → p ≤ length m → HasBitmapsFault o fault → refusal why ≡ bitmaps_refusal fault → NoBitmaps m p why
bitmaps_missing m o p (Long long) why is inside many told = too_much (record { many = omega (arith, many, ap length is); told = told })
bitmaps_missing m o p ShortInput why is inside wrong told = few_wrong m o p ShortInput why is inside wrong told
bitmaps_missing m o p WindowOrder why is inside wrong told = few_wrong m o p WindowOrder why is inside wrong told
bitmaps_missing m o p BitmapLength why is inside wrong told = few_wrong m o p BitmapLength why is inside wrong told
