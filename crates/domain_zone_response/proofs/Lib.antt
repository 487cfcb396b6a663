mod Bits
mod Covering
mod Filling
mod Growing
mod Lacking
mod Parting
mod Responding
