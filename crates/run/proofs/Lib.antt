mod Limits
mod Stepping
mod Clean
mod Carrying
mod Taking
mod Looking
mod Going
