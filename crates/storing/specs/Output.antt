-- What the code's outputs mean; no public contract cites it.
use Rattle.storing.specs.declared.Output.{Output}
use Rattle.storing.specs.Private.{Spot, spot}

-- The destination of an output, and the place in it
abbrev pub spot_of : Output → Spot
spot_of out = spot out.at out.dest.now
