mod Ending
mod Onward
mod Telling
