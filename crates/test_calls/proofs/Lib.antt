mod Readies
