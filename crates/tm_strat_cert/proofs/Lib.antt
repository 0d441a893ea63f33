mod Fits
mod Later
mod Told
